use Rattle.std.proofs.Common.{◌∙◌, ap, refl, subst}
use Rattle.tsdb_streams.proofs.OpenFacts.{pages_of_store, pages_true, part_of_store, part_true}
use Rattle.tsdb_streams.proofs.PageLoop.{same_due, told_of, truth_of}
use Rattle.tsdb_streams.proofs.Reasons.{memory_alone}
use Rattle.tsdb_streams.specs.Lanes.{IsToldLane}
use Rattle.tsdb_streams.proofs.filling.fill_lane.Goals as goal

pub fill_pages-requires-clause-store : goal.fill_pages-requires-clause-store
fill_pages-requires-clause-store g c = λ lifetimes lives. c.requires.store c.in-Pages.pages c.in-Pages.is

pub returns-in-Pages-clause-moved : goal.returns-in-Pages-clause-moved
returns-in-Pages-clause-moved g c = λ pages truth. rw c.in-Pages.is (c.fill_pages.ensures.moved pages (truth c.in-Pages.pages c.in-Pages.is))

pub returns-in-Pages-clause-most : goal.returns-in-Pages-clause-most
returns-in-Pages-clause-most g c = rw c.in-Pages.is c.fill_pages.ensures.most

pub returns-in-Pages-clause-store : goal.returns-in-Pages-clause-store
returns-in-Pages-clause-store g c =
    let file = g.P.Right.ReadRight.file in
    pages_of_store file _ c.fill_pages.new.lane (ap (λ r. (file r.now).store) c.fill_pages.ensures.same_file.right ∙ c.requires.store c.in-Pages.pages c.in-Pages.is)

pub returns-in-Pages-clause-truth : goal.returns-in-Pages-clause-truth
returns-in-Pages-clause-truth g c = λ pages truth.
    let file = g.P.Right.ReadRight.file in
    pages_true file pages c.fill_pages.new.lane (truth_of file pages c.in-Pages.pages c.fill_pages.new.lane c.fill_pages.ensures.same_file (truth c.in-Pages.pages c.in-Pages.is))

pub returns-in-Pages-clause-told : goal.returns-in-Pages-clause-told
returns-in-Pages-clause-told g c = λ pages all.
    let file = g.P.Right.ReadRight.file in
    told_of file pages c.in-Pages.pages c.fill_pages.new.lane c.fill_pages.ensures.same_file (subst (IsToldLane file pages) c.in-Pages.is all)

pub returns-in-Pages-clause-reason : goal.returns-in-Pages-clause-reason
returns-in-Pages-clause-reason g c = λ pages truth. rw c.in-Pages.is (c.fill_pages.ensures.reason pages (truth c.in-Pages.pages c.in-Pages.is))

pub returns-in-Part-clause-moved : goal.returns-in-Part-clause-moved
returns-in-Part-clause-moved g c = λ pages truth. rw c.in-Part.is c.fill_part.ensures.moved

pub returns-in-Part-clause-most : goal.returns-in-Part-clause-most
returns-in-Part-clause-most g c = rw c.in-Part.is c.fill_part.ensures.most

pub returns-in-Part-clause-store : goal.returns-in-Part-clause-store
returns-in-Part-clause-store g c = part_of_store g.P.Right.ReadRight.file _ c.fill_part.new.lane

pub returns-in-Part-clause-truth : goal.returns-in-Part-clause-truth
returns-in-Part-clause-truth g c = λ pages truth. part_true g.P.Right.ReadRight.file pages c.fill_part.new.lane

pub returns-in-Part-clause-told : goal.returns-in-Part-clause-told
returns-in-Part-clause-told g c = λ pages all. tt

pub returns-in-Part-clause-reason : goal.returns-in-Part-clause-reason
returns-in-Part-clause-reason g c = λ pages truth. memory_alone _ _ _ c.fill_part.ensures.memory

pub returns-in-Pages-clause-due : goal.returns-in-Pages-clause-due
returns-in-Pages-clause-due g c = λ range. rw c.in-Pages.is (same_due range c.in-Pages.pages c.fill_pages.new.lane c.fill_pages.ensures.same_file)

pub returns-in-Part-clause-due : goal.returns-in-Part-clause-due
returns-in-Part-clause-due g c = λ range. rw c.in-Part.is refl
