-- Laws of what a pass learns and what it owes.
use Rattle.std.proofs.Common.{◌≡◌, ◌≢◌, ℕ, ◌<◌, List, [], ◌++◌, All, refl, sym, ap, subst, ◌∙◌, append_assoc, append-nil, arith}
use Rattle.std.proofs.lemmas.List.Elements.{All-append}
use Rattle.tsdb_turn.specs.Values.{Follows, Extends, IsTurnKept, at_start, by_turn}
use Rattle.tsdb_turn.specs.declared.logged.Logged as logged

all_some : {A : Type 0} (P Q : A → Type 0) (xs : List A) → ((x : A) → P x → Q x) → All P xs → All Q xs
all_some P Q xs step all = λ k d h. step _ (all k d h)

none_yet : {A : Type 0} (P : A → Type 0) → All P []
none_yet P = λ k d h. absurd (omega arith)

module _ {V Entry Account : Type 0} (means : logged.Ghosts V Entry Account) where
  -- a value that comes from the start follows itself
  pub follows_itself : (n : ℕ) (start value : V) → means.comes_from value start → Follows means n start value value
  follows_itself n start value origin = record {
    origin = origin;
    more = [];
    list = sym (append-nil (means.entries_of value));
    others = none_yet _;
    account = refl;
    reach = omega arith;
  }

  -- what a pass leaves follows for another pass, where the value that it entered did
  pub follows_others : (n other : ℕ) (start entered last value : V) → other ≢ n → Extends means n start entered value → Follows means other start last entered → Follows means other start last value
  follows_others n other start entered last value apart e f = record {
    origin = e.origin;
    more = f.more ++ e.more;
    list = e.list ∙ ap (λ xs. xs ++ e.more) f.list ∙ append_assoc (means.entries_of last) f.more e.more;
    others = All-append (λ x. means.number_of x ≢ other) f.more e.more f.others (all_some (λ x. means.number_of x ≡ n) (λ x. means.number_of x ≢ other) e.more (λ x is same. apart (sym same ∙ is)) e.own);
    account = e.accounts other apart ∙ f.account;
    reach = let a = e.reach in let b = f.reach in omega arith;
  }

  -- what each turn keeps
  pub kept_after : (n seats : ℕ) (start entered value : V) → n < seats → Extends means n start entered value → IsTurnKept means seats start entered → IsTurnKept means seats start value
  kept_after n seats start entered value made e kept = record {
    numbers =
        subst (λ xs. All (λ x. means.number_of x < seats) xs) (sym e.list)
        (All-append (λ x. means.number_of x < seats) (means.entries_of entered) e.more kept.numbers
        (all_some (λ x. means.number_of x ≡ n) (λ x. means.number_of x < seats) e.more (λ x is. omega arith) e.own));
    reached = by_turn n made kept.reached e;
  }

  pub kept_empty : (seats : ℕ) (value : V) → means.entries_of value ≡ [] → IsTurnKept means seats value value
  kept_empty seats value empty = record {
    numbers = subst (λ xs. All (λ x. means.number_of x < seats) xs) (sym empty) (none_yet _);
    reached = at_start;
  }
