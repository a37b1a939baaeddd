-- Words behind what was read.
use Rattle.std.proofs.Common.{◌≡◌, ℕ, ◌<◌, true≢false, Bool, true, false, Option, None, Some, List, [], ◌∷◌, length, refl, sym, ap, ◌∙◌, arith, subst, codes}
use Rattle.std.specs.Prelude.{◌↔◌, IfNone, IfSome, IsTrue}
use Rattle.tsdb_run.specs.declared.seen.Seen.{Seen}
use Rattle.tsdb_run.specs.WordSteps.{Completes, FollowsSeen, nothing}
use Rattle.tsdb_run.specs.Words.{AreArguments, AreWords, Asked, IsArgument, AreOptionsWithinLimits, Argument}
use Rattle.tsdb_run.proofs.OneReading.{no_words, one_part, within_limits}
use Rattle.tsdb_run.proofs.SeenLemmas.{Adds}

-- ---- one part more

pub none_follows : (seen : Seen) (words : List (List ℕ)) (asked : Asked) → 0 < length words
    → ((part : Argument) (rest : List (List ℕ)) → ¬ IsArgument part words rest) → ¬ FollowsSeen seen words asked
none_follows seen words asked some none ([], are, completes) = omega (arith, some, ap length are)
none_follows seen words asked some none (part ∷ parts, are, completes) = none part are.0 are.1

to_next : (old new : Seen) (part : Argument) (may : Bool) (words rest : List (List ℕ)) (asked : Asked) → IsArgument part words rest → Adds old part may new
    → FollowsSeen old words asked → IsTrue may × FollowsSeen new rest asked
to_next old new part may words rest asked is adds ([], are, completes) = absurd (no_words part rest (subst (λ l. IsArgument part l rest) are is))
to_next old new part may words rest asked is adds (first ∷ parts, are, completes) =
    let same = one_part part first words rest are.0 is are.1 in
    let after = (adds parts asked).0 (subst (λ p. Completes old (p ∷ parts) asked) (sym same.0) completes) in
    (after.0, (parts, subst (AreArguments parts) (sym same.1) are.2, after.1))

pub follows_next : (old new : Seen) (part : Argument) (may : Bool) (words rest : List (List ℕ)) → IsArgument part words rest → Adds old part may new
    → (asked : Asked) → FollowsSeen old words asked ↔ (IsTrue may × FollowsSeen new rest asked)
follows_next old new part may words rest is adds asked = (
  to_next old new part may words rest asked is adds,
  λ t. let f = t.1 in (part ∷ f.0, (rest, is, f.1), (adds f.0 asked).1 (t.0, f.2)),
)

-- the part may stand there
pub kept : (first old new : Seen) (part : Argument) (may : Bool) (all words rest : List (List ℕ)) → IsArgument part words rest → Adds old part may new → may ≡ true
    → ((asked : Asked) → FollowsSeen first all asked ↔ FollowsSeen old words asked) → (asked : Asked) → FollowsSeen first all asked ↔ FollowsSeen new rest asked
kept first old new part may all words rest is adds yes_it_may same asked =
    let next = follows_next old new part may words rest is adds asked in
    (λ f. (next.0 ((same asked).0 f)).1, λ f. (same asked).1 (next.1 (yes_it_may, f)))

-- and it may not
pub refused : (first old new : Seen) (part : Argument) (may : Bool) (all words rest : List (List ℕ)) → IsArgument part words rest → Adds old part may new → may ≡ false
    → ((asked : Asked) → FollowsSeen first all asked ↔ FollowsSeen old words asked) → (asked : Asked) → ¬ FollowsSeen first all asked
refused first old new part may all words rest is adds it_may_not same asked f =
    true≢false (sym ((to_next old new part may words rest asked is adds ((same asked).0 f)).0) ∙ it_may_not)

-- no word is left
pub at_end : (seen : Seen) (words : List (List ℕ)) → length words ≡ 0 → (asked : Asked) → FollowsSeen seen words asked ↔ Completes seen [] asked
at_end seen [] none asked = (to, λ c. ([], refl, c))
  where
    to : FollowsSeen seen [] asked → Completes seen [] asked
    to ([], are, completes) = completes
    to (part ∷ parts, are, completes) = absurd (no_words part are.0 are.1)
at_end seen (word ∷ words) none asked = absurd (omega (arith, none))

-- ---- all words

pub are_words : (words behind : List (List ℕ)) (first : List ℕ) (asked : Asked) → words ≡ first ∷ behind → first ≡ codes "run" → FollowsSeen nothing behind asked → AreWords words asked
are_words words behind first asked w run f = record {
  parts = f.0;
  behind = behind;
  run = w ∙ ap (λ l. l ∷ behind) run;
  are = f.1;
  end = f.2.end;
  directory = f.2.directory;
  pair_points = f.2.pair_points;
  workers = f.2.workers;
}

pub words_follow : (words behind : List (List ℕ)) (first : List ℕ) (asked : Asked) → words ≡ first ∷ behind → AreWords words asked
    → (first ≡ codes "run") × FollowsSeen nothing behind asked
words_follow words behind first asked w are =
    let run = are.run in
    let same : are.behind ≡ behind = cc in
    (cc, (are.parts, subst (AreArguments are.parts) same are.are, record { end = are.end; directory = are.directory; pair_points = are.pair_points; workers = are.workers }))

-- what completes the parts that were read is asked for by the words
module _ (words behind : List (List ℕ)) (first : List ℕ) (seen : Seen) (w : words ≡ first ∷ behind)
    (found : (asked : Asked) → FollowsSeen nothing behind asked ↔ Completes seen [] asked) where
  pub none_asked : (result : Option Asked) → IfNone result ((asked : Asked) → ¬ Completes seen [] asked) → IfNone result ((asked : Asked) → ¬ AreWords words asked)
  none_asked None none = λ asked are. none asked ((found asked).0 (words_follow words behind first asked w are).1)
  none_asked (Some asked) none = tt

  pub asked_found : first ≡ codes "run" → (result : Option Asked) → IfSome result (Completes seen []) → IfSome result (λ asked. AreWords words asked)
  asked_found run None completes = tt
  asked_found run (Some asked) completes = are_words words behind first asked w run ((found asked).1 completes)

  pub asked_within : first ≡ codes "run" → (result : Option Asked) → IfSome result (Completes seen []) → IfSome result (λ asked. AreOptionsWithinLimits asked)
  asked_within run None completes = tt
  asked_within run (Some asked) completes = within_limits words asked (are_words words behind first asked w run ((found asked).1 completes))
