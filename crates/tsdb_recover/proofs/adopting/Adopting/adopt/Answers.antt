use Rattle.std.proofs.Common.{◌∙◌, refl, sym, ap, subst}
use Rattle.tsdb_recover.proofs.Adopted.{is_adopted, number_wanted, says_more, still_first}
use Rattle.tsdb_recover.proofs.TakingUp.{wanted_not_kept}
use Rattle.tsdb_recover.specs.Adopting.{adopting_files, opening_of, wanted_file}
use Rattle.tsdb_fileset.specs.Files.{IsOpen}
use Rattle.tsdb_redo.specs.Lists.{file_of}
use Rattle.tsdb_redo.specs.Opening.{IsOpeningOf}
use Rattle.tsdb_recover.proofs.adopting.Adopting.adopt.Goals as goal

pub enlist-requires-clause-place : goal.enlist-requires-clause-place
enlist-requires-clause-place g c κs within =
    let is = c.requires.wanted.is in
    let recorded = c.requires.wanted.recorded in
    let free = wanted_not_kept (adopting_files c.args.self.now) is.items recorded c.in-Some.space (file_of c.in-Some.file)
    c.next.ensures.kept is.replayed is.first (sym (c.in-Some.ensures.file recorded is.opening)) in
    subst (λ n. IsOpen n (adopting_files c.prepare.new.self)) (sym c.in-Ok.ensures.described.number)
    (c.in-Ok.ensures.place.made free)

pub returns-in-Ok-clause-adopting : goal.returns-in-Ok-clause-adopting
returns-in-Ok-clause-adopting g c = λ recorded is.
    let name = g.F.Sealed.SealedFile.file c.args.sealed in
    let old = adopting_files c.args.self.now in
    let made = adopting_files c.prepare.new.self in
    let new = adopting_files c.enlist.new.self in
    let adopted = is_adopted name c.args.meta.now recorded.store c.in-Some.space (file_of c.in-Some.file) old made new
    c.in-Ok.described.entry c.in-Ok.described.series (sym (c.in-Some.ensures.file recorded is.opening))
    c.in-Ok.ensures.described c.in-Ok.ensures.files c.enlist.ensures.taken in
    record {
      opening = subst (λ o. IsOpeningOf o recorded)
          (sym (ap opening_of c.enlist.ensures.rest ∙ ap opening_of c.in-Ok.ensures.rest)) is.opening;
      items = is.items;
      replayed = is.replayed;
      first = still_first name c.args.meta.now recorded.store old new adopted is.first;
    }

pub returns-in-Ok-clause-described : goal.returns-in-Ok-clause-described
returns-in-Ok-clause-described g c = λ recorded told is order read says.
    let name = g.F.Sealed.SealedFile.file c.args.sealed in
    let old = adopting_files c.args.self.now in
    let made = adopting_files c.prepare.new.self in
    let new = adopting_files c.enlist.new.self in
    let held = c.tell_memory.ensures recorded is.opening in
    let may = c.requires.wanted in
    let adopted = is_adopted name c.args.meta.now recorded.store c.in-Some.space (file_of c.in-Some.file) old made new
    c.in-Ok.described.entry c.in-Ok.described.series (sym (c.in-Some.ensures.file recorded is.opening))
    c.in-Ok.ensures.described c.in-Ok.ensures.files c.enlist.ensures.taken in
    let number = number_wanted (adopted.space, adopted.file) (wanted_file old may.recorded.store) name.number
    (sym adopted.wanted ∙ sym (c.in-Some.ensures.file recorded is.opening) ∙ c.in-Some.ensures.file may.recorded may.is.opening)
    may.wanted in
    says_more name c.args.meta.now recorded.store old new adopted told held.0 is.items recorded refl (sym number)
    c.next.ensures.kept is.replayed is.first held.1 held.2 order read says
