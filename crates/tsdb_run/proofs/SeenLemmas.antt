-- What one part more adds to what was read.
use Rattle.std.proofs.Common.{◌≡◌, ℕ, true≢false, Bool, true, false, not, List, [], ◌∷◌, ◌++◌, Bor, Option, None, Some, inl, inr, refl, sym, ap, ◌∙◌, subst}
use Rattle.std.specs.Prelude.{◌↔◌, IsTrue, filter}
use Rattle.std.proofs.lemmas.Bool.{false≢true}
use Rattle.std.specs.Option.{unwrap_or}
use Rattle.tsdb_run.specs.declared.seen.Seen.{Seen}
use Rattle.tsdb_run.specs.WordSteps.{Completes, KeepsFirst, MayFollowArguments, directory_in, option_in}
use Rattle.tsdb_run.specs.Words.{Asked, IsOptionGiven, Argument, Directory, Pair, Workers, End, is_directory}

abbrev seen : Option (Bor (List ℕ)) → Option ℕ → Option ℕ → Bool → Seen
seen d p w e = record { directory = d; pair_points = p; workers = w; ended = e }

-- what completes the old with the part in front is what completes the new, if the part may stand there
abbrev pub Adds : Seen → Argument → Bool → Seen → Type 0
Adds old part may new = (parts : List Argument) (asked : Asked) → Completes old (part ∷ parts) asked ↔ (IsTrue may × Completes new parts asked)

-- ---- a directory

without_directory : (e : Bool) (word : List ℕ) (parts : List Argument) → MayFollowArguments e (Directory word ∷ parts) → MayFollowArguments e parts
without_directory true word parts may = may.1
without_directory false word parts may = may

with_directory : (e : Bool) (word : List ℕ) (parts : List Argument) → MayFollowArguments e parts → MayFollowArguments e (Directory word ∷ parts)
with_directory true word parts may = (refl, may)
with_directory false word parts may = may

pub adds_directory : (d kept : Option (Bor (List ℕ))) (p w : Option ℕ) (e may : Bool) (word : Bor (List ℕ)) → KeepsFirst d kept word may
    → Adds (seen d p w e) (Directory word.now) may (seen kept p w e)
adds_directory None kept p w e may word keeps parts asked = (
  λ c. (
    keeps.1,
    subst (λ k. Completes (seen k p w e) parts asked) (sym keeps.0)
        (record { end = without_directory e word.now parts c.end; directory = c.directory; pair_points = c.pair_points; workers = c.workers }),
  ),
  λ t. let c = subst (λ k. Completes (seen k p w e) parts asked) keeps.0 t.1 in
      record { end = with_directory e word.now parts c.end; directory = c.directory; pair_points = c.pair_points; workers = c.workers },
)
adds_directory (Some first) kept p w e may word keeps parts asked = (
  λ c. let two : Directory first.now ∷ Directory word.now ∷ filter is_directory parts ≡ Directory asked.directory ∷ [] = c.directory in cc,
  λ t. absurd (true≢false (sym t.0 ∙ keeps)),
)

-- ---- an option

-- no option is given twice
given_twice : (option : ℕ → Argument) (first second : Argument) (others : List Argument) (default number : ℕ)
    → ¬ IsOptionGiven option (first ∷ second ∷ others) default number
given_twice option first second others default number (inl one) = cc
given_twice option first second others default number (inr none) = let empty : first ∷ second ∷ others ≡ [] = none.0 in cc

without_option : (e : Bool) (part : Argument) (parts : List Argument) → e ≡ false → (MayFollowArguments false (part ∷ parts) → MayFollowArguments false parts)
    → MayFollowArguments e (part ∷ parts) → MayFollowArguments e parts
without_option true part parts unended less may = absurd (true≢false unended)
without_option false part parts unended less may = less may

with_option : (e : Bool) (part : Argument) (parts : List Argument) → e ≡ false → (MayFollowArguments false parts → MayFollowArguments false (part ∷ parts))
    → MayFollowArguments e parts → MayFollowArguments e (part ∷ parts)
with_option true part parts unended more may = absurd (true≢false unended)
with_option false part parts unended more may = more may

pub adds_pair : (d : Option (Bor (List ℕ))) (p kept w : Option ℕ) (e may : Bool) (number : ℕ) → e ≡ false → KeepsFirst p kept number may
    → Adds (seen d p w e) (Pair number) may (seen d kept w e)
adds_pair d None kept w e may number unended keeps parts asked = (
  λ c. (
    keeps.1,
    subst (λ k. Completes (seen d k w e) parts asked) (sym keeps.0)
        (record { end = without_option e (Pair number) parts unended (λ m. m) c.end; directory = c.directory; pair_points = c.pair_points; workers = c.workers }),
  ),
  λ t. let c = subst (λ k. Completes (seen d k w e) parts asked) keeps.0 t.1 in
      record { end = with_option e (Pair number) parts unended (λ m. m) c.end; directory = c.directory; pair_points = c.pair_points; workers = c.workers },
)
adds_pair d (Some first) kept w e may number unended keeps parts asked = (λ c. absurd (given_twice Pair (Pair first) (Pair number) _ _ _ c.pair_points), λ t. absurd (true≢false (sym t.0 ∙ keeps)))

pub adds_workers : (d : Option (Bor (List ℕ))) (p w kept : Option ℕ) (e may : Bool) (number : ℕ) → e ≡ false → KeepsFirst w kept number may
    → Adds (seen d p w e) (Workers number) may (seen d p kept e)
adds_workers d p None kept e may number unended keeps parts asked = (
  λ c. (
    keeps.1,
    subst (λ k. Completes (seen d p k e) parts asked) (sym keeps.0)
        (record { end = without_option e (Workers number) parts unended (λ m. m) c.end; directory = c.directory; pair_points = c.pair_points; workers = c.workers }),
  ),
  λ t. let c = subst (λ k. Completes (seen d p k e) parts asked) keeps.0 t.1 in
      record { end = with_option e (Workers number) parts unended (λ m. m) c.end; directory = c.directory; pair_points = c.pair_points; workers = c.workers },
)
adds_workers d p (Some first) kept e may number unended keeps parts asked = (λ c. absurd (given_twice Workers (Workers first) (Workers number) _ _ _ c.workers), λ t. absurd (true≢false (sym t.0 ∙ keeps)))

-- behind a lone `--` no option may stand
pub adds_none : (s : Seen) (part : Argument) → s.ended ≡ true → ¬ IsTrue (is_directory part) → Adds s part (not s.ended) s
adds_none s part ended option parts asked = (
  λ c. absurd (option (subst (λ e. MayFollowArguments e (part ∷ parts)) ended c.end).0),
  λ t. absurd (true≢false (sym t.0 ∙ ap not ended)),
)

-- ---- a lone `--`

pub adds_end : (d : Option (Bor (List ℕ))) (p w : Option ℕ) (e : Bool) → Adds (seen d p w e) End (not e) (seen d p w true)
adds_end d p w true parts asked = (λ c. absurd (false≢true c.end.0), λ t. absurd (true≢false (sym t.0)))
adds_end d p w false parts asked = (
  λ c. (refl, record { end = c.end; directory = c.directory; pair_points = c.pair_points; workers = c.workers }),
  λ t. let c = t.1 in record { end = c.end; directory = c.directory; pair_points = c.pair_points; workers = c.workers },
)

-- ---- no part

nothing_follows : (e : Bool) → MayFollowArguments e []
nothing_follows true = tt
nothing_follows false = tt

given_or : (option : ℕ → Argument) (read : Option ℕ) (default number : ℕ) → number ≡ unwrap_or read default
    → IsOptionGiven option (option_in option read ++ []) default number
given_or option None default number is = inr (refl, is)
given_or option (Some given) default number is = inl (ap (λ n. option n ∷ []) (sym is))

pub asked_is : (s : Seen) (word : Bor (List ℕ)) (pair count : ℕ) (asked : Asked) → s.directory ≡ Some word → pair ≡ unwrap_or s.pair_points 10000
    → count ≡ unwrap_or s.workers 1 → asked ≡ record { directory = word.now; pair_points = pair; workers = count } → Completes s [] asked
asked_is s word pair count asked some is also made = subst (Completes s []) (sym made) (record {
  end = nothing_follows s.ended;
  directory = ap (λ d. directory_in d ++ []) some;
  pair_points = given_or Pair s.pair_points 10000 pair is;
  workers = given_or Workers s.workers 1 count also;
})

pub no_directory : (s : Seen) (asked : Asked) → s.directory ≡ None → ¬ Completes s [] asked
no_directory s asked none c =
    let empty : [] ≡ Directory asked.directory ∷ [] = subst (λ d. directory_in d ++ [] ≡ Directory asked.directory ∷ []) none c.directory in
    cc
