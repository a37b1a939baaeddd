-- Scripts cut into lines, and lines without their ends.
use Rattle.std.proofs.Common.{◌≡◌, ◌≢◌, ℕ, ◌<◌, zero, suc, get_or, Bool, true, false, cond, ◌&&◌, List, [], ◌∷◌, ◌++◌, length, take, drop, eqb, refl, ap, ◌∙◌, arith}
use Rattle.std.specs.List.{concat, list_all, onto_first}
use Rattle.std.proofs.Math.Dec.{eqb-suc-zero}
use Rattle.std.proofs.lemmas.Bool.{cond-false, cond-true, eq-eqb, ne_eqb}
use Rattle.tsdb_script.specs.Reading.{lines_of, without_last}
use Rattle.tsdb_script.specs.Steps.{after_blanks}
use Rattle.tsdb_script.specs.Tokens.{is_blank}

-- the first line, by the place of its line feed
pub lines_of-found : (bytes : List ℕ) (at : ℕ) → at < length bytes → ((k : ℕ) → k < at → get_or bytes k 0 ≢ 10) → get_or bytes at 0 ≡ 10
    → lines_of bytes ≡ take (suc at) bytes ∷ lines_of (drop (suc at) bytes)
lines_of-found [] at lt before here = absurd (omega arith)
lines_of-found (b ∷ bytes) zero lt before here = cond-true (eqb b 10) _ _ (eq-eqb b 10 here)
lines_of-found (b ∷ bytes) (suc at) lt before here =
    cond-false (eqb b 10) _ _ (ne_eqb b 10 (before 0 (omega arith)))
    ∙ ap (onto_first b) (lines_of-found bytes at (omega arith) (λ k h. before (suc k) (omega arith)) here)

-- a text without a line feed is one line
pub lines_of-one : (bytes : List ℕ) → 0 < length bytes → ((k : ℕ) → k < length bytes → get_or bytes k 0 ≢ 10) → lines_of bytes ≡ bytes ∷ []
lines_of-one [] lt before = absurd (omega arith)
lines_of-one (b ∷ []) lt before = cond-false (eqb b 10) _ _ (ne_eqb b 10 (before 0 (omega arith)))
lines_of-one (b ∷ c ∷ bytes) lt before =
    cond-false (eqb b 10) _ _ (ne_eqb b 10 (before 0 (omega arith)))
    ∙ ap (onto_first b) (lines_of-one (c ∷ bytes) (omega arith) (λ k h. before (suc k) (omega arith)))

pushed : (x : ℕ) (t : Bool) (short long : List ℕ) → x ∷ cond t short long ≡ cond t (x ∷ short) (x ∷ long)
pushed x true short long = refl
pushed x false short long = refl

-- what stands before a last byte
pub without_last-push : (last b : ℕ) (front : List ℕ) → without_last last (front ++ b ∷ []) ≡ cond (eqb b last) front (front ++ b ∷ [])
without_last-push last b [] = refl
without_last-push last b (x ∷ []) = pushed x (eqb b last) [] (b ∷ [])
without_last-push last b (x ∷ y ∷ front) = ap (λ l. x ∷ l) (without_last-push last b (y ∷ front)) ∙ pushed x (eqb b last) _ _

-- nothing stands behind blanks alone
pub blank_is : (bytes : List ℕ) → eqb (length (after_blanks bytes)) 0 ≡ list_all is_blank bytes
blank_is [] = refl
blank_is (b ∷ bytes) = by_first (is_blank b) (blank_is bytes)
  where
    by_first : (t : Bool) → eqb (length (after_blanks bytes)) 0 ≡ list_all is_blank bytes
        → eqb (length (cond t (after_blanks bytes) (b ∷ bytes))) 0 ≡ (t && list_all is_blank bytes)
    by_first true e = e
    by_first false e = eqb-suc-zero (length bytes)

concat-onto_first : (b : ℕ) (lines : List (List ℕ)) → concat (onto_first b lines) ≡ b ∷ concat lines
concat-onto_first b [] = refl
concat-onto_first b (l ∷ lines) = refl

-- the lines are all of the bytes
pub concat-lines_of : (bytes : List ℕ) → concat (lines_of bytes) ≡ bytes
concat-lines_of [] = refl
concat-lines_of (b ∷ bytes) =
    elim (eqb b 10) as (λ t. concat (cond t ((b ∷ []) ∷ lines_of bytes) (onto_first b (lines_of bytes))) ≡ b ∷ bytes)
    [ true ↦ ap (λ l. b ∷ l) (concat-lines_of bytes) | false ↦ concat-onto_first b (lines_of bytes) ∙ ap (λ l. b ∷ l) (concat-lines_of bytes) ]

-- how the lines go on where bytes follow: all but the last stay, and the last goes on
pub record GoesOn (bytes rest : List ℕ) : Type 0 where
  pub front : List (List ℕ)
  pub last : List ℕ
  pub more : List ℕ
  pub others : List (List ℕ)
  pub short : lines_of bytes ≡ front ++ last ∷ []
  pub long : lines_of (bytes ++ rest) ≡ front ++ (last ++ more) ∷ others

-- what a byte that is no line feed becomes in front of lines
headed : (b : ℕ) (lines : List (List ℕ)) → (more : List ℕ) × (others : List (List ℕ)) × (onto_first b lines ≡ (b ∷ more) ∷ others)
headed b [] = ([], [], refl)
headed b (l ∷ lines) = (l, lines, refl)

no_feed : (b : ℕ) (bytes : List ℕ) → eqb b 10 ≡ false → lines_of (b ∷ bytes) ≡ onto_first b (lines_of bytes)
no_feed b bytes e = cond-false (eqb b 10) _ _ e

goes : (bytes rest : List ℕ) (front : List (List ℕ)) (last more : List ℕ) (others : List (List ℕ)) → lines_of bytes ≡ front ++ last ∷ []
    → lines_of (bytes ++ rest) ≡ front ++ (last ++ more) ∷ others → GoesOn bytes rest
goes bytes rest front last more others short long = record { front = front; last = last; more = more; others = others; short = short; long = long }

single : (b : ℕ) (rest : List ℕ) (t : Bool) → eqb b 10 ≡ t → GoesOn (b ∷ []) rest
single b rest true e = goes (b ∷ []) rest [] (b ∷ []) [] (lines_of rest) (cond-true (eqb b 10) _ _ e) (cond-true (eqb b 10) _ _ e)
single b rest false e = let h = headed b (lines_of rest) in goes (b ∷ []) rest [] (b ∷ []) h.0 h.1 (no_feed b [] e) (no_feed b rest e ∙ h.2)

longer : (b : ℕ) (bytes rest : List ℕ) (t : Bool) → eqb b 10 ≡ t → GoesOn bytes rest → GoesOn (b ∷ bytes) rest
longer b bytes rest true e g =
    goes (b ∷ bytes) rest ((b ∷ []) ∷ g.front) g.last g.more g.others (cond-true (eqb b 10) _ _ e ∙ ap (λ l. (b ∷ []) ∷ l) g.short)
    (cond-true (eqb b 10) _ _ e ∙ ap (λ l. (b ∷ []) ∷ l) g.long)
longer b bytes rest false e g = onto g.front g.short g.long
  where
    onto : (front : List (List ℕ)) → lines_of bytes ≡ front ++ g.last ∷ [] → lines_of (bytes ++ rest) ≡ front ++ (g.last ++ g.more) ∷ g.others → GoesOn (b ∷ bytes) rest
    onto [] short long =
        goes (b ∷ bytes) rest [] (b ∷ g.last) g.more g.others (no_feed b bytes e ∙ ap (onto_first b) short) (no_feed b (bytes ++ rest) e ∙ ap (onto_first b) long)
    onto (f ∷ front) short long =
        goes (b ∷ bytes) rest ((b ∷ f) ∷ front) g.last g.more g.others (no_feed b bytes e ∙ ap (onto_first b) short) (no_feed b (bytes ++ rest) e ∙ ap (onto_first b) long)

pub goes_on : (b : ℕ) (bytes rest : List ℕ) → GoesOn (b ∷ bytes) rest
goes_on b [] rest = single b rest (eqb b 10) refl
goes_on b (c ∷ bytes) rest = longer b (c ∷ bytes) rest (eqb b 10) refl (goes_on c bytes rest)
