use Rattle.std.proofs.Common.{Ok, Err, rules, ◌≡◌, ◌<◌, length, get_or}
use Rattle.std.proofs.lemmas.Result.{err_from_is_err_and}
use Rattle.tsdb_merge.proofs.SourceLemmas.{cause_of_one, filled_one, memory_fault, most_one, moved_one, others_of}
use Rattle.tsdb_merge.proofs.merge.fill_one.Goals as goal

pub returns : goal.returns
returns g c =
    let list = c.args.list.now.items in
    let old = c.index_mut.result.now in
    let new = c.pull.new.self in
    let below : c.args.source < length list = c.requires.source in
    let is : old ≡ get_or list c.args.source old = search rules in
    record {
      moved = moved_one list c.args.source old new below is g.P.Points.left c.in_ok-point.point c.in_ok-more.more c.put.new.into.items c.in_ok-point.ensures.next c.in_ok-more.ensures.put;
      filled = filled_one c.in_ok-point.point c.in_ok-more.more c.put.new.into.items c.in_ok-more.ensures.put;
      most = most_one list c.args.source old new below is g.P.Points.most c.in_ok-point.point c.in_ok-more.more c.put.new.into.items c.in_ok-point.ensures.most c.in_ok-more.ensures.put;
      others = others_of list c.args.source old new below is g.P.Points.left;
      cause = cause_of_one g.P.Points.failures g.P.Points.damages list c.args.source old new (Ok c.in_ok-point.point) (Ok c.in_ok-more.more) below is c.in_ok-point.ensures.cause tt;
    }

pub returns-in_err-point-clause-others : goal.returns-in_err-point-clause-others
returns-in_err-point-clause-others g c =
    let list = c.args.list.now.items in
    let old = c.index_mut.result.now in
    let below : c.args.source < length list = c.requires.source in
    let is : old ≡ get_or list c.args.source old = search rules in
    others_of list c.args.source old c.pull.new.self below is g.P.Points.left

pub returns-in_err-point-clause-cause : goal.returns-in_err-point-clause-cause
returns-in_err-point-clause-cause g c =
    let list = c.args.list.now.items in
    let old = c.index_mut.result.now in
    let below : c.args.source < length list = c.requires.source in
    let is : old ≡ get_or list c.args.source old = search rules in
    let p = err_from_is_err_and c.from_residual.result c.from_residual.ensures.1 in
    rw (p.1, p.2) (cause_of_one g.P.Points.failures g.P.Points.damages list c.args.source old c.pull.new.self (Err c.in_err-point.field-0.0) (Err c.in_err-point.field-0.0) below is c.in_err-point.ensures.cause c.in_err-point.ensures.cause.fault)

pub returns-in_err-more-clause-others : goal.returns-in_err-more-clause-others
returns-in_err-more-clause-others g c =
    let list = c.args.list.now.items in
    let old = c.index_mut.result.now in
    let below : c.args.source < length list = c.requires.source in
    let is : old ≡ get_or list c.args.source old = search rules in
    others_of list c.args.source old c.pull.new.self below is g.P.Points.left

pub returns-in_err-more-clause-cause : goal.returns-in_err-more-clause-cause
returns-in_err-more-clause-cause g c =
    let list = c.args.list.now.items in
    let old = c.index_mut.result.now in
    let below : c.args.source < length list = c.requires.source in
    let is : old ≡ get_or list c.args.source old = search rules in
    let p = err_from_is_err_and c.from_residual-in_err-more.result c.from_residual-in_err-more.ensures.1 in
    rw (p.1, p.2) (cause_of_one g.P.Points.failures g.P.Points.damages list c.args.source old c.pull.new.self (Ok c.in_ok-point.point) (Err c.in_err-more.field-0.0) below is c.in_ok-point.ensures.cause (memory_fault c.in_err-more.field-0.0 _ _ _ _ c.in_err-more.ensures.memory))
