use Rattle.std.proofs.Common.{inl, inr, refl}
use Rattle.tsdb_recover.proofs.Opened.{err_and, ok_with}
use Rattle.tsdb_recover.proofs.opening.take_listed.Goals as goal

pub returns-in-Ok-clause-taken : goal.returns-in-Ok-clause-taken
returns-in-Ok-clause-taken g c =
    ok_with c.remove_strays.result _ _
    (λ gone. (g.F.Files.at_rest c.adopt_all.new.files, c.adopt_all.ensures.taking, gone)) c.remove_strays.ensures.gone

pub returns-in-Ok-clause-left : goal.returns-in-Ok-clause-left
returns-in-Ok-clause-left g c =
    err_and c.remove_strays.result _ _ _ (λ answer gone none. record {
      before = g.F.Files.at_rest c.adopt_all.new.files;
      taken = c.adopt_all.ensures.taking;
      gone = inr (c.in-Ok.ensures.all, gone, none);
    }) c.remove_strays.ensures.others c.remove_strays.ensures.no_damage

pub returns-in-Err-clause-left : goal.returns-in-Err-clause-left
returns-in-Err-clause-left g c = record {
  before = g.F.Files.at_rest c.adopt_all.new.files;
  taken = c.adopt_all.ensures.taking;
  gone = inl refl;
}
