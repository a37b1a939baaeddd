-- Texts that are put one after another.
use Rattle.std.proofs.Common.{◌≡◌, ℕ, ◌≤◌, List, [], ◌++◌, Option, None, Some, Result, Ok, Err, OnOk, refl, sym, ap, ◌∙◌, subst, append_assoc, append-nil, arith, take, drop}
use Rattle.std.proofs.lemmas.List.{take-append-drop}
use Rattle.std.specs.Io.KnownBytes.{Appends}
use Rattle.tsdb_base.specs.Causes.{Rose}
use Rattle.tsdb_outside.specs.declared.faults.StoreFault.{StoreFault}
use Rattle.tsdb_outside.specs.declared.faults.StoreFault.TheVariants as fault
use Rattle.tsdb_run.specs.Output.{AppendsPrefix}
use Rattle.tsdb_run.specs.Steps.{PutsText}

pub Appends-nothing : (held : Option (List ℕ)) → Appends held held []
Appends-nothing None = tt
Appends-nothing (Some xs) = sym (append-nil xs)

pub Appends-twice : (old middle new : Option (List ℕ)) (x y : List ℕ) → Appends old middle x → Appends middle new y → Appends old new (x ++ y)
Appends-twice None middle new x y a b = tt
Appends-twice (Some xs) None new x y a b = absurd a
Appends-twice (Some xs) (Some ys) None x y a b = absurd b
Appends-twice (Some xs) (Some ys) (Some zs) x y a b = b ∙ ap (λ l. l ++ y) a ∙ append_assoc xs x y

-- a text is what a count takes of it, and the rest
pub begins : (count : ℕ) (text rest : List ℕ) → rest ≡ drop count text → text ≡ take count text ++ rest
begins count text rest back = sym (take-append-drop count text) ∙ ap (λ l. take count text ++ l) (sym back)

-- so far the prefix of a text has been put, without a fault
pub record HasPut (old new : Option (List ℕ)) (text rest : List ℕ) (before now : ℕ) : Type 0 where
  pub prefix : List ℕ
  pub splits : text ≡ prefix ++ rest
  pub held : Appends old new prefix
  pub same : now ≡ before

-- a prefix of a part is a prefix of what begins with it
pub AppendsPrefix-more : (old new : Option (List ℕ)) (text part others : List ℕ) → text ≡ part ++ others → AppendsPrefix old new part → AppendsPrefix old new text
AppendsPrefix-more old new text part others splits puts =
    (puts.0, puts.1 ++ others, splits ∙ ap (λ l. l ++ others) puts.2 ∙ append_assoc puts.0 puts.1 others, puts.3)

pub same_error : {T : Type 0} (e : StoreFault) → ◌≡◌ {A = Result T StoreFault} (Err e) (Err fault.Failed) → e ≡ fault.Failed
same_error e h = cc

pub memory_is_no_failure : {A : Type 0} → fault.Memory ≡ fault.Failed → A
memory_is_no_failure e = absurd cc

module _ (old : Option (List ℕ)) (text : List ℕ) (before : ℕ) where
  pub HasPut-none : HasPut old old text text before before
  HasPut-none = record { prefix = []; splits = refl; held = Appends-nothing old; same = refl }

  -- one more part has been put
  pub HasPut-more : (middle new : Option (List ℕ)) (part rest others : List ℕ) (between now : ℕ)
      → HasPut old middle text rest before between → rest ≡ part ++ others → Appends middle new part → now ≡ between → HasPut old new text others before now
  HasPut-more middle new part rest others between now put splits held same = record {
    prefix = put.prefix ++ part;
    splits = put.splits ∙ ap (λ l. put.prefix ++ l) splits ∙ sym (append_assoc put.prefix part others);
    held = Appends-twice old middle new put.prefix part put.held held;
    same = same ∙ put.same;
  }

  -- all has been put
  pub Puts-whole : {T : Type 0} (new : Option (List ℕ)) (rest : List ℕ) (now : ℕ) (x : T)
      → HasPut old new text rest before now → rest ≡ [] → PutsText old new text before now (Ok x)
  Puts-whole new rest now x put none =
      let held : Appends old new text = subst (Appends old new) (sym (put.splits ∙ ap (λ l. put.prefix ++ l) none ∙ append-nil put.prefix)) put.held in
      record {
        whole = held;
        prefix = (text, [], sym (append-nil text), held);
        cause = record { later = omega (arith, put.same); failed = λ h. cc };
        no_fault = λ none. put.same;
      }

  rose : (between now : ℕ) → between ≡ before → Rose between now → Rose before now
  rose between now same h = omega arith

  -- the rest, or a prefix of it, was being put as a call failed
  pub Puts-failed : {T : Type 0} (middle new : Option (List ℕ)) (rest : List ℕ) (between now : ℕ) (e : StoreFault)
      → HasPut old middle text rest before between → AppendsPrefix middle new rest → between ≤ now → (e ≡ fault.Failed → Rose between now)
      → (¬ (e ≡ fault.Failed) → now ≡ between) → PutsText {T = T} old new text before now (Err e)
  Puts-failed middle new rest between now e put part later cause calm = record {
    whole = tt;
    prefix = (put.prefix ++ part.0, part.1, put.splits ∙ ap (λ l. put.prefix ++ l) part.2 ∙ sym (append_assoc put.prefix part.0 part.1), Appends-twice old middle new put.prefix part.0 put.held part.3);
    cause = record { later = omega (arith, put.same); failed = λ h. rose between now put.same (cause (same_error e h)) };
    no_fault = λ none. calm (λ failed. none (ap Err failed)) ∙ put.same;
  }

-- a call of a loop over parts failed: what it answered is handed on
pub Puts-in_part : {T U : Type 0} (old middle new : Option (List ℕ)) (text rest part others : List ℕ) (before between now : ℕ) (result : Result U StoreFault) (e f : StoreFault)
    → HasPut old middle text rest before between → rest ≡ part ++ others → PutsText middle new part between now result → result ≡ Err e → f ≡ e
    → PutsText {T = T} old new text before now (Err f)
Puts-in_part old middle new text rest part others before between now result e f put splits puts is same =
    Puts-failed old text before middle new rest between now f put
    (AppendsPrefix-more middle new rest part others splits puts.prefix) puts.cause.later (λ failed. puts.cause.failed (is ∙ ap Err (sym same ∙ failed)))
    (λ none. puts.no_fault (λ failed. none (same ∙ same_error e (sym is ∙ failed))))

-- a call put its part, which is there then
pub held_after : {U : Type 0} (middle new : Option (List ℕ)) (part : List ℕ) (between now : ℕ) (result : Result U StoreFault) (x : U)
    → PutsText middle new part between now result → result ≡ Ok x → Appends middle new part
held_after middle new part between now result x puts is = subst (λ r. OnOk r (Appends middle new part)) is puts.whole

-- and without a fault
pub calm_after : {U : Type 0} (middle new : Option (List ℕ)) (part : List ℕ) (between now : ℕ) (result : Result U StoreFault) (x : U)
    → PutsText middle new part between now result → result ≡ Ok x → now ≡ between
calm_after {U} middle new part between now result x puts is =
    puts.no_fault (λ failed. not_failed (sym is ∙ failed))
  where
    not_failed : ◌≡◌ {A = Result U StoreFault} (Ok x) (Err fault.Failed) → ⊥
    not_failed failed = cc

-- the last of two parts was put, or not, and what the call answered is handed on
pub Puts-after : {T : Type 0} (old middle new : Option (List ℕ)) (text first last : List ℕ) (before between now : ℕ) (result : Result T StoreFault)
    → Appends old middle first → between ≡ before → text ≡ first ++ last → PutsText middle new last between now result → PutsText old new text before now result
Puts-after {T} old middle new text first last before between now (Ok x) held same splits puts =
    let all : Appends old new text = subst (Appends old new) (sym splits) (Appends-twice old middle new first last held puts.whole) in
    record {
      whole = all;
      prefix = (text, [], sym (append-nil text), all);
      cause = record { later = omega (arith, puts.cause.later); failed = λ h. cc };
      no_fault = λ none. puts.no_fault none ∙ same;
    }
Puts-after {T} old middle new text first last before between now (Err e) held same splits puts =
    Puts-failed old text before middle new last between now e
    (record { prefix = first; splits = splits; held = held; same = same }) puts.prefix puts.cause.later (λ failed. puts.cause.failed (ap Err failed))
    (λ none. puts.no_fault (λ failed. none (same_error e failed)))

-- memory ran out behind what was put
pub Puts-memory : {T : Type 0} (old middle : Option (List ℕ)) (text rest : List ℕ) (before now : ℕ) (e : StoreFault)
    → HasPut old middle text rest before now → e ≡ fault.Memory → PutsText {T = T} old middle text before now (Err e)
Puts-memory old middle text rest before now e put is =
    Puts-failed old text before middle middle rest now now e put ([], rest, refl, Appends-nothing middle) (omega arith) (λ failed. memory_is_no_failure (sym is ∙ failed))
    (λ none. refl)
