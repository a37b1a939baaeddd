-- Words are parts in one way at most.
use Rattle.std.proofs.Common.{◌≡◌, ℕ, suc, cond, eqb, List, [], ◌∷◌, ◌++◌, get_or, inl, inr, refl, sym, ap, ◌∙◌, arith, subst, codes}
use Rattle.std.specs.List.{AllByRecursion}
use Rattle.std.specs.Str.Parse.{digits_value}
use Rattle.std.specs.Prelude.{◌≤◌, filter}
use Rattle.std.proofs.lemmas.Bool.{ne_eqb}
use Rattle.tsdb_run.specs.Words.{AreArguments, AreWords, Asked, IsOptionGiven, IsOption, IsArgument, AreOptionsWithinLimits, Argument, Directory, Pair, Workers, End, is_directory, is_pair, is_workers}
use Rattle.tsdb_run.proofs.PartLemmas.{one_digits}

-- ---- one part

one_option : (name : List ℕ) (m n : ℕ) (words rest more : List (List ℕ)) → IsOption name m words rest → IsOption name n words more → (m ≡ n) × (rest ≡ more)
one_option name m n words rest more a b =
    let same = one_digits name a.0 b.0 words rest more a.2 b.2 in
    let digits : a.0 ≡ b.0 = same.0 in
    (a.1.value ∙ ap (λ l. digits_value 10 l) digits ∙ sym b.1.value, same.1)

-- a number for the kind of a word: by its third byte, if it begins with `-`
kind : List ℕ → ℕ
kind word = cond (eqb (get_or word 0 0) 45) (suc (get_or word 2 0)) 0

abbrev kind_of : Argument → ℕ
kind_of (Directory word) = 0
kind_of (Pair number) = 113
kind_of (Workers number) = 120
kind_of End = 1

kind_is : (part : Argument) (word : List ℕ) (words rest : List (List ℕ)) → IsArgument part (word ∷ words) rest → kind word ≡ kind_of part
unfolding kind
kind_is (Directory own) word words rest is =
    let same : word ≡ own = let e = is.1 in cc in
    ap kind same ∙ ap (λ t. cond t (suc (get_or own 2 0)) 0) (ne_eqb (get_or own 0 0) 45 is.0.1)
kind_is (Pair number) word words rest ((digits, is, inl e), least, most) = let same : word ≡ codes "--pair" = cc in ap kind same
kind_is (Pair number) word words rest ((digits, is, inr e), least, most) = let same : word ≡ codes "--pair" ++ 61 ∷ digits = cc in ap kind same
kind_is (Workers number) word words rest ((digits, is, inl e), most) = let same : word ≡ codes "--workers" = cc in ap kind same
kind_is (Workers number) word words rest ((digits, is, inr e), most) = let same : word ≡ codes "--workers" ++ 61 ∷ digits = cc in ap kind same
kind_is End word words rest is = let same : word ≡ codes "--" = cc in ap kind same

same_kind : (one other : Argument) (word : List ℕ) (words rest more : List (List ℕ)) → IsArgument one (word ∷ words) rest → IsArgument other (word ∷ words) more
    → kind_of one ≡ kind_of other
same_kind one other word words rest more a b = sym (kind_is one word words rest a) ∙ kind_is other word words more b

pub no_words : (part : Argument) (rest : List (List ℕ)) → ¬ IsArgument part [] rest
no_words (Directory word) rest is = let e = is.1 in cc
no_words (Pair number) rest ((digits, is, inl e), least, most) = cc
no_words (Pair number) rest ((digits, is, inr e), least, most) = cc
no_words (Workers number) rest ((digits, is, inl e), most) = cc
no_words (Workers number) rest ((digits, is, inr e), most) = cc
no_words End rest is = cc

-- words begin with one part
pub one_part : (one other : Argument) (words rest more : List (List ℕ)) → IsArgument one words rest → IsArgument other words more → (one ≡ other) × (rest ≡ more)
one_part one other [] rest more a b = absurd (no_words one rest a)
one_part (Directory v) (Directory w) (x ∷ xs) rest more a b = let e = a.1 in let f = b.1 in (cc, cc)
one_part (Pair m) (Pair n) (x ∷ xs) rest more a b =
    let same = one_option (codes "--pair") m n (x ∷ xs) rest more a.0 b.0 in (ap Pair same.0, same.1)
one_part (Workers m) (Workers n) (x ∷ xs) rest more a b =
    let same = one_option (codes "--workers") m n (x ∷ xs) rest more a.0 b.0 in (ap Workers same.0, same.1)
one_part End End (x ∷ xs) rest more a b = (refl, cc)
one_part one other (x ∷ xs) rest more a b = absurd (omega (arith, same_kind one other x xs rest more a b))

-- ---- all parts

pub one_row : (one other : List Argument) (words : List (List ℕ)) → AreArguments one words → AreArguments other words → one ≡ other
one_row [] [] words a b = refl
one_row [] (q ∷ qs) words a b = absurd (no_words q b.0 (subst (λ l. IsArgument q l b.0) a b.1))
one_row (p ∷ ps) [] words a b = absurd (no_words p a.0 (subst (λ l. IsArgument p l a.0) b a.1))
one_row (p ∷ ps) (q ∷ qs) words a b =
    let same = one_part p q words a.0 b.0 a.1 b.1 in
    let first : p ≡ q = same.0 in
    let others : ps ≡ qs = one_row ps qs a.0 a.2 (subst (AreArguments qs) (sym same.1) b.2) in
    cc

-- the number of an option
number_of : Argument → ℕ
number_of (Pair number) = number
number_of (Workers number) = number
number_of part = 0

pair_number : (number : ℕ) → number_of (Pair number) ≡ number
unfolding number_of
pair_number number = refl

workers_number : (number : ℕ) → number_of (Workers number) ≡ number
unfolding number_of
workers_number number = refl

module _ (option : ℕ → Argument) (its : (number : ℕ) → number_of (option number) ≡ number) (given : List Argument) (default : ℕ) where
  one_given : (m n : ℕ) → IsOptionGiven option given default m → IsOptionGiven option given default n → m ≡ n
  one_given m n (inl a) (inl b) =
      let same : option m ≡ option n = (let both = sym a ∙ b in cc) in
      sym (its m) ∙ ap number_of same ∙ its n
  one_given m n (inl a) (inr b) = let none = sym a ∙ b.0 in cc
  one_given m n (inr a) (inl b) = let none = sym b ∙ a.0 in cc
  one_given m n (inr a) (inr b) = a.1 ∙ sym b.1

  given_within : (P : ℕ → Type 0) (n : ℕ) → AllByRecursion (λ part. P (number_of part)) given → P default
      → IsOptionGiven option given default n → P n
  given_within P n all good (inl is) = subst P (its n) (subst (AllByRecursion (λ part. P (number_of part))) is all).0
  given_within P n all good (inr is) = subst P (sym is.1) good

pub one_asked : (words : List (List ℕ)) (one other : Asked) → AreWords words one → AreWords words other → one ≡ other
one_asked words one other a b =
    let run = a.run in
    let again = b.run in
    let behind : a.behind ≡ b.behind = cc in
    let parts : a.parts ≡ b.parts = one_row a.parts b.parts a.behind a.are (subst (AreArguments b.parts) (sym behind) b.are) in
    let first = a.directory in
    let second = b.directory in
    let directories = ap (filter is_directory) parts in
    let directory : one.directory ≡ other.directory = (let same : Directory one.directory ∷ [] ≡ Directory other.directory ∷ [] = sym first ∙ directories ∙ second in cc) in
    let pair : one.pair_points ≡ other.pair_points = one_given Pair pair_number (filter is_pair a.parts) 10000 one.pair_points other.pair_points a.pair_points
    (subst (λ ps. IsOptionGiven Pair (filter is_pair ps) 10000 other.pair_points) (sym parts) b.pair_points) in
    let count : one.workers ≡ other.workers = one_given Workers workers_number (filter is_workers a.parts) 1 one.workers other.workers a.workers
    (subst (λ ps. IsOptionGiven Workers (filter is_workers ps) 1 other.workers) (sym parts) b.workers) in
    let made : List ℕ → ℕ → ℕ → Asked = λ d p w. record { directory = d; pair_points = p; workers = w } in
    let same : made one.directory one.pair_points one.workers ≡ made other.directory other.pair_points other.workers = cc in
    same

-- ---- limits

pairs_within : (parts : List Argument) (words : List (List ℕ)) → AreArguments parts words
    → AllByRecursion (λ part. (1 ≤ number_of part) × (number_of part ≤ 1000000)) (filter is_pair parts)
unfolding number_of
pairs_within [] words are = tt
pairs_within (Directory word ∷ parts) words are = pairs_within parts are.0 are.2
pairs_within (Pair number ∷ parts) words are = ((are.1.1, are.1.2), pairs_within parts are.0 are.2)
pairs_within (Workers number ∷ parts) words are = pairs_within parts are.0 are.2
pairs_within (End ∷ parts) words are = pairs_within parts are.0 are.2

workers_within : (parts : List Argument) (words : List (List ℕ)) → AreArguments parts words
    → AllByRecursion (λ part. number_of part ≤ 4) (filter is_workers parts)
unfolding number_of
workers_within [] words are = tt
workers_within (Directory word ∷ parts) words are = workers_within parts are.0 are.2
workers_within (Pair number ∷ parts) words are = workers_within parts are.0 are.2
workers_within (Workers number ∷ parts) words are = (are.1.1, workers_within parts are.0 are.2)
workers_within (End ∷ parts) words are = workers_within parts are.0 are.2

pub within_limits : (words : List (List ℕ)) (asked : Asked) → AreWords words asked → AreOptionsWithinLimits asked
within_limits words asked are =
    let pair = given_within Pair pair_number (filter is_pair are.parts) 10000 (λ n. (1 ≤ n) × (n ≤ 1000000)) asked.pair_points
    (pairs_within are.parts are.behind are.are) (omega arith, omega arith) are.pair_points in
    record {
      least = pair.0;
      most = pair.1;
      workers = given_within Workers workers_number (filter is_workers are.parts) 1 (λ n. n ≤ 4) asked.workers
          (workers_within are.parts are.behind are.are) (omega arith) are.workers;
    }
