-- The numbers of series by their paths.
use Rattle.std.proofs.Common.{◌≡◌, ℕ, zero, suc, ◌+◌, Bool, true, false, cond, not, List, [], ◌∷◌, ◌++◌, length}
use Rattle.std.proofs.Common.{map, ◌⊎◌, inl, inr, ⊎_elim, Option, Some, None, refl, sym, ap, subst, ◌∙◌, arith}
use Rattle.std.proofs.Common.{slice_get, nat_lt}
use Rattle.std.proofs.Common.{Result, Ok, Err}
use Rattle.std.specs.Prelude.{IfSome, IsOk, OnOk, position}
use Rattle.std.specs.List.{position_or_len}
use Rattle.std.specs.Map.{keys_of, lookup}
use Rattle.std.specs.Option.{option_map, option_or}
use Rattle.std.specs.Str.{bytes_eq}
use Rattle.std.proofs.lemmas.Bool.{false≢true}
use Rattle.std.proofs.lemmas.Bool.Decides.{nat_tests}
use Rattle.std.proofs.lemmas.List.{map-append}
use Rattle.std.proofs.lemmas.Map.Text.{is_eq-slice_cmp}
use Rattle.indexmap.proofs.CallerLemmas.{insert_entry-new}
use Rattle.indexmap.specs.IndexMap.{IndexMap, insert_entry}
use Rattle.tsdb_base.specs.declared.value.DataType.{DataType}
use Rattle.tsdb_base.specs.declared.value.Encoding.{Encoding}
use Rattle.tsdb_state.proofs.LayerLemmas.Places.{is_path_same, path_itself}
use Rattle.tsdb_state.specs.Places.{is_path}
use Rattle.tsdb_model.specs.declared.command.Schema.{Schema}
use Rattle.tsdb_memory.specs.Model.{schema_of}
use Rattle.tsdb_memory.specs.StateOfMemory.{number_of}

abbrev pub Kind : Type 0
Kind = DataType × Encoding

pub some_same : {X : Type 0} (x y : X) → Some x ≡ Some y → x ≡ y
some_same x y e = cc

one_more : (n len : ℕ) → nat_lt (1 + n) (suc len) ≡ nat_lt n len
one_more n len = grind (arith, nat_tests)

some_place : (len : ℕ) → nat_lt 0 (suc len) ≡ true
some_place len = grind (arith, nat_tests)

-- the number of a series is its place in the map
pub number_found : (entries : List (List ℕ × Kind)) (path : List ℕ)
    → number_of (map schema_of entries) path ≡ position (bytes_eq path) (keys_of entries)
number_found [] path = refl
number_found (e ∷ entries) path =
    ap (λ b. cond b (Some 0) (option_map suc (number_of (map schema_of entries) path))) (is_eq-slice_cmp path e.0)
    ∙ ap (λ o. cond (bytes_eq path e.0) (Some 0) (option_map suc o)) (number_found entries path)
    ∙ by (bytes_eq path e.0) (position_or_len (bytes_eq path) (keys_of entries)) (length (keys_of entries))
  where
    next : (b : Bool) (n : ℕ) → option_map suc (cond b (Some n) None) ≡ cond b (Some (1 + n)) None
    next true n = ap Some (omega arith)
    next false n = refl

    by : (b : Bool) (n len : ℕ) → cond b (Some 0) (option_map suc (cond (nat_lt n len) (Some n) None))
        ≡ cond (nat_lt (cond (not b) (1 + n) 0) (suc len)) (Some (cond (not b) (1 + n) 0)) None
    by true n len = ap (λ t. cond t (Some 0) None) (sym (some_place len))
    by false n len = next (nat_lt n len) n ∙ ap (λ t. cond t (Some (1 + n)) None) (sym (one_more n len))

pub length_push : {X : Type 0} (xs : List X) (x : X) → length (xs ++ x ∷ []) ≡ length xs + 1
length_push [] x = omega arith
length_push (y ∷ xs) x = let rest = length_push xs x in omega arith

-- what a list with one element more has at a place
pub get_push : {X : Type 0} (xs : List X) (x y : X) (n : ℕ) → slice_get (xs ++ x ∷ []) n ≡ Some y
    → (slice_get xs n ≡ Some y) ⊎ ((n ≡ length xs) × (x ≡ y))
get_push [] x y zero e = inr (refl, some_same x y e)
get_push [] x y (suc n) e = absurd (cc)
get_push (z ∷ xs) x y zero e = inl e
get_push (z ∷ xs) x y (suc n) e = ⊎_elim (λ h. inl h) (λ h. inr (ap suc h.0, h.1)) (get_push xs x y n e)

-- a series joins behind the others
pub number_push : (series : List Schema) (schema : Schema) (path : List ℕ)
    → number_of (series ++ schema ∷ []) path
    ≡ option_or (number_of series path) (cond (is_path path schema.path) (Some (length series)) None)
number_push [] schema path = refl
number_push (s ∷ series) schema path =
    ap (λ o. cond (is_path path s.path) (Some 0) (option_map suc o)) (number_push series schema path)
    ∙ by (is_path path s.path) (number_of series path) (is_path path schema.path) (length series)
  where
    by : (b : Bool) (o : Option ℕ) (c : Bool) (n : ℕ)
        → cond b (Some 0) (option_map suc (option_or o (cond c (Some n) None)))
        ≡ option_or (cond b (Some 0) (option_map suc o)) (cond c (Some (suc n)) None)
    by true o c n = refl
    by false (Some m) c n = refl
    by false None true n = refl
    by false None false n = refl

not_next : (o : Option ℕ) (n : ℕ) → Some 0 ≡ Some n → option_map suc o ≡ Some n → ⊥
not_next None n e h = cc
not_next (Some m) n e h =
    let zero_is = some_same 0 n e in
    let next_is = some_same (suc m) n h in
    absurd (omega (arith, zero_is, next_is))

-- two paths with one number are one
pub one_path : (series : List Schema) (n : ℕ) (p q : List ℕ) → number_of series p ≡ Some n → number_of series q ≡ Some n
    → p ≡ q
one_path [] n p q h k = absurd (cc)
one_path (s ∷ series) n p q h k =
    by (is_path p s.path) (is_path q s.path) refl refl
    (λ m a b. one_path series m p q a b) h k
  where
    inner : (o r : Option ℕ) (n : ℕ) → ((m : ℕ) → o ≡ Some m → r ≡ Some m → p ≡ q)
        → option_map suc o ≡ Some n → option_map suc r ≡ Some n → p ≡ q
    inner None r n rest a b = absurd (cc)
    inner (Some x) None n rest a b = absurd (cc)
    inner (Some x) (Some y) n rest a b =
        let first = some_same (suc x) n a in
        let second = some_same (suc y) n b in
        let same : y ≡ x = omega (arith, first, second) in
        rest x refl (ap Some same)

    by : (a b : Bool) → is_path p s.path ≡ a → is_path q s.path ≡ b
        → ((m : ℕ) → number_of series p ≡ Some m → number_of series q ≡ Some m → p ≡ q)
        → cond a (Some 0) (option_map suc (number_of series p)) ≡ Some n
        → cond b (Some 0) (option_map suc (number_of series q)) ≡ Some n → p ≡ q
    by true true ea eb rest h k = is_path_same p s.path ea ∙ sym (is_path_same q s.path eb)
    by true false ea eb rest h k = absurd (not_next (number_of series q) n h k)
    by false true ea eb rest h k = absurd (not_next (number_of series p) n k h)
    by false false ea eb rest h k = inner (number_of series p) (number_of series q) n rest h k

-- each series still has its path alone after one more has joined, whose path was free
pub once_push : (series : List Schema) (schema : Schema) → number_of series schema.path ≡ None
    → ((number : ℕ) (s : Schema) → slice_get series number ≡ Some s → number_of series s.path ≡ Some number)
    → (number : ℕ) (s : Schema) → slice_get (series ++ schema ∷ []) number ≡ Some s
    → number_of (series ++ schema ∷ []) s.path ≡ Some number
once_push series schema free once number s e = ⊎_elim
    (λ h. number_push series schema s.path
    ∙ ap (λ o. option_or o (cond (is_path s.path schema.path) (Some (length series)) None)) (once number s h))
    (λ h. subst (λ (x : Schema). number_of (series ++ schema ∷ []) x.path ≡ Some number) h.1
    (number_push series schema schema.path
    ∙ ap (λ o. option_or o (cond (is_path schema.path schema.path) (Some (length series)) None)) free
    ∙ ap (λ b. cond b (Some (length series)) None) (path_itself schema.path) ∙ ap Some (sym h.0)))
    (get_push series schema s number e)

none_before : {X Y : Type 0} (f : X → Y) (o : Option X) → option_map f o ≡ None → o ≡ None
none_before f None e = refl
none_before f (Some x) e = cc

some_none : {X : Type 0} (x : X) → Some x ≡ None → ⊥
some_none x e = cc

-- a series without a number is not in the map
pub absent : (entries : List (List ℕ × Kind)) (path : List ℕ) → number_of (map schema_of entries) path ≡ None
    → lookup (bytes_eq path) entries ≡ None
absent [] path h = refl
absent (e ∷ entries) path h =
    ap (λ b. cond b (Some e.1) (lookup (bytes_eq path) entries)) (sym (is_eq-slice_cmp path e.0))
    ∙ by (is_path path e.0) (λ k. absent entries path k) h
  where
    by : (b : Bool) → (number_of (map schema_of entries) path ≡ None → lookup (bytes_eq path) entries ≡ None)
        → cond b (Some 0) (option_map suc (number_of (map schema_of entries) path)) ≡ None
        → cond b (Some e.1) (lookup (bytes_eq path) entries) ≡ None
    by true rest h = absurd (some_none 0 h)
    by false rest h = rest (none_before suc (number_of (map schema_of entries) path) h)

pub on_ok : {T E : Type 0} (r : Result T E) (P : Type 0) → IsOk r → OnOk r P → P
on_ok (Ok x) P ok h = h
on_ok (Err e) P ok h = absurd (false≢true ok)

-- the list of series after one has joined, whose path was free
pub joined : {T E S : Type 0} (old new : IndexMap (List ℕ) Kind S) (schema : Schema) (result : Result T E)
    → number_of (map schema_of old.entries) schema.path ≡ None → IsOk result
    → OnOk result
    (new.entries ≡ insert_entry bytes_eq old.entries schema.path (schema.data_type, schema.encoding))
    → map schema_of new.entries ≡ map schema_of old.entries ++ schema ∷ []
joined old new schema result free ok inserted =
    let kind : Kind = (schema.data_type, schema.encoding) in
    ap (map schema_of) (on_ok result (new.entries ≡ insert_entry bytes_eq old.entries schema.path kind) ok inserted
    ∙ insert_entry-new bytes_eq old schema.path kind (absent old.entries schema.path free))
    ∙ map-append schema_of old.entries ((schema.path, kind) ∷ [])

-- the series of a number

no_number : (n : ℕ) → None ≡ Some n → ⊥
no_number n e = cc

pub record SchemaAt (series : List Schema) (number : ℕ) (path : List ℕ) : Type 0 where
  pub schema : Schema
  pub at : slice_get series number ≡ Some schema
  pub of_path : schema.path ≡ path

pub schema_at : (series : List Schema) (path : List ℕ) (number : ℕ) → number_of series path ≡ Some number
    → SchemaAt series number path
schema_at [] path number e = absurd (no_number number e)
schema_at (s ∷ series) path number e =
    by (is_path path s.path) (number_of series path) refl refl e (λ n h. schema_at series path n h)
  where
    by : (b : Bool) (o : Option ℕ) → is_path path s.path ≡ b → number_of series path ≡ o
        → cond b (Some 0) (option_map suc o) ≡ Some number
        → ((n : ℕ) → number_of series path ≡ Some n → SchemaAt series n path) → SchemaAt (s ∷ series) number path
    by true o eb eo e rest = record {
      schema = s;
      at = subst (λ k. slice_get (s ∷ series) k ≡ Some s) (some_same 0 number e) refl;
      of_path = sym (is_path_same path s.path eb);
    }
    by false None eb eo e rest = absurd (no_number number e)
    by false (Some n) eb eo e rest =
        let found = rest n eo in
        record {
          schema = found.schema;
          at = subst (λ k. slice_get (s ∷ series) k ≡ Some found.schema) (some_same (suc n) number e) found.at;
          of_path = found.of_path;
        }

pub at_map : {X Y : Type 0} (f : X → Y) (xs : List X) (n : ℕ) → slice_get (map f xs) n ≡ option_map f (slice_get xs n)
at_map f [] n = refl
at_map f (x ∷ xs) zero = refl
at_map f (x ∷ xs) (suc n) = at_map f xs n

-- the series of a number that was looked up by its path
pub named : (entries : List (List ℕ × Kind)) (path key : List ℕ) (kind : Kind) (number : ℕ)
    → number_of (map schema_of entries) path ≡ Some number → slice_get entries number ≡ Some (key, kind)
    → slice_get (map schema_of entries) number
    ≡ Some (record { path = path; data_type = kind.0; encoding = kind.1 })
named entries path key kind number numbered entry =
    let found = schema_at (map schema_of entries) path number numbered in
    let at = at_map schema_of entries number ∙ ap (option_map schema_of) entry in
    let same : key ≡ path =
    ap (λ (s : Schema). s.path) (sym (some_same found.schema (schema_of (key, kind)) (sym found.at ∙ at))) ∙ found.of_path in
    at ∙ ap (λ k. let s : Option Schema = Some (record { path = k; data_type = kind.0; encoding = kind.1 }) in s) same

-- what a look-up gives

pub none_first : {X Y : Type 0} (f : X → Y) (o : Option X) (found : Option Y) → option_map f o ≡ found → o ≡ None
    → None ≡ found
none_first f o found e is = ap (option_map f) (sym is) ∙ e

pub some_first : {X Y : Type 0} (f : X → Y) (o : Option X) (x : X) (found : Option Y) → option_map f o ≡ found
    → o ≡ Some x → Some (f x) ≡ found
some_first f o x found e is = ap (option_map f) (sym is) ∙ e

pub holds_of : {X : Type 0} (P : X → Type 0) (o : Option X) (x : X) → IfSome o P → o ≡ Some x → P x
holds_of P o x holds is = subst (λ o. IfSome o P) is holds
