use Rattle.std.proofs.Common.{◌≡◌, ◌∷◌, [], Option, length, sym, ap, subst, ◌∙◌, arith}
use Rattle.std.specs.Prelude.{IfSome}
use Rattle.std.proofs.lemmas.List.{nil_from_length}
use Rattle.tsdb_fileset.specs.Closing.{AreNumbersRising, names_at}
use Rattle.tsdb_fileset.specs.Places.{KeptFile, Places, file_at}
use Rattle.tsdb_fileset.proofs.PlaceFacts.{all_above, one_taken}
use Rattle.tsdb_fileset.proofs.PutBack.{IsAtRestAfter, next_at_rest, none_at_rest}
use Rattle.tsdb_fileset.proofs.Taken.{still_all}
use Rattle.tsdb_fileset.proofs.closing.keep_files.Goals as goal
use Rattle.tsdb_outside.specs.Files.{Store}

pub keep_file-requires-clause-no_rights : goal.keep_file-requires-clause-no_rights
keep_file-requires-clause-no_rights g c κs within =
    let Holds : Option (Option KeptFile) → Type 0 = λ place. IfSome (file_at place) (λ file. file.rights ≡ 0) in
    subst Holds c.in-Some.ensures.value (c.loop.invariant.1 c.in-Some._number)

pub keep_file-requires-clause-store : goal.keep_file-requires-clause-store
keep_file-requires-clause-store g c κs within =
    let Of : Store → Type 0 = λ store. IfSome c.in-Some.place (λ file. file.name.store ≡ store) in
    let First : Option (Option KeptFile) → Type 0 = λ place.
    IfSome (file_at place) (λ file. file.name.store ≡ g.F.Files.store c.args.files.now) in
    subst Of (sym c.loop.invariant.3) (subst First c.in-Some.ensures.value (c.loop.invariant.2 c.in-Some._number))

pub loop-preserved : goal.loop-preserved
loop-preserved g c =
    let old = c.loop.places.entries in
    let new = c.pop_first.new.self.entries in
    let removal : old ≡ (c.in-Some._number, c.in-Some.place) ∷ new = c.in-Some.ensures.removal in
    let count = ap length removal in
    let taken = one_taken c.in-Some._number old new c.in-Some.ensures.updates.0 in (
      omega (arith, c.loop.invariant.0, count),
      still_all _ (c.in-Some._number ∷ []) old new taken c.loop.invariant.1,
      still_all _ (c.in-Some._number ∷ []) old new taken c.loop.invariant.2,
      c.keep_file.ensures.same_store ∙ c.loop.invariant.3,
      c.keep_file.ensures.faults ∙ c.loop.invariant.4,
      λ last rest.
          let After : Places → Type 0 = λ entries.
          IsAtRestAfter (names_at entries) (g.F.Files.at_rest c.loop.files) last in
          c.loop.invariant.5 last
          (subst After (sym removal) (next_at_rest c.in-Some._number c.in-Some.place new _ _ last
          c.keep_file.ensures.at_rest rest)),
      λ rest. c.loop.invariant.6 (subst AreNumbersRising (sym removal)
          (all_above c.in-Some._number new c.in-Some.ensures.all_above, rest)),
    )

pub returns-clause-at_rest : goal.returns-clause-at_rest
returns-clause-at_rest g c =
    let none : c.loop.places.entries ≡ [] =
    nil_from_length c.loop.places.entries
    (omega (arith, c.loop.invariant.0, c.loop-test.false, c.loop.auto.counter-end)) in
    let After : Places → Type 0 = λ entries.
    IsAtRestAfter (names_at entries) (g.F.Files.at_rest c.loop.files) (g.F.Files.at_rest c.loop.files) in
    c.loop.invariant.5 (g.F.Files.at_rest c.loop.files)
    (subst After (sym none) (none_at_rest (g.F.Files.at_rest c.loop.files)))

pub returns-clause-rising : goal.returns-clause-rising
returns-clause-rising g c =
    let none : c.loop.places.entries ≡ [] =
    nil_from_length c.loop.places.entries
    (omega (arith, c.loop.invariant.0, c.loop-test.false, c.loop.auto.counter-end)) in
    c.loop.invariant.6 (subst AreNumbersRising (sym none) tt)
