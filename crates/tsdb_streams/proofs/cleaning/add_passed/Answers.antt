use Rattle.std.proofs.Common.{rules, ◌∙◌, true, ◌++◌, sym, ap}
use Rattle.std.proofs.lemmas.List.{append-nil}
use Rattle.tsdb_streams.proofs.CleanFacts.{picked_none, picked_push, picked_skip, pushed_one}
use Rattle.tsdb_index.specs.declared.index.PageEntry.{PageEntry}
use Rattle.tsdb_streams.proofs.cleaning.add_passed.Goals as goal
use Rattle.tsdb_streams.proofs.cleaning.add_passed.Goals.{then-is_passed+in_ok-copy+in_ok-push, else-is_passed}

pub loop-place-init : goal.loop-place-init
loop-place-init c = sym (ap (λ l. c.args.into.now.items ++ l) (picked_none c.args.flags.now) ∙ append-nil c.args.into.now.items)

pub loop-place-preserved : goal.loop-place-preserved
loop-place-preserved c = elim c.if-is_passed.branch [
  | then-is_passed+in_ok-copy+in_ok-push w ↦ picked_push c.args.flags.now c.args.pages.now c.loop-place.place w.index-pages-place.result c.loop-place.into.items c.if-is_passed.into.items c.args.into.now.items true c.loop-place-test.true w.index-pages-place.is c.loop-place.invariant (search rules) (pushed_one c.loop-place.into.items c.if-is_passed.into.items w.in_ok-copy.field-0 w.index-pages-place.result.stats (search rules) (w.in_ok-copy.ensures ∙ ap (λ (p : PageEntry). p.stats) (sym w.index-pages-place.is)) tt)
  | else-is_passed w ↦ picked_skip c.args.flags.now c.args.pages.now c.loop-place.place c.loop-place.into.items c.if-is_passed.into.items c.args.into.now.items c.loop-place-test.true c.loop-place.invariant (search rules) (search rules)
]
