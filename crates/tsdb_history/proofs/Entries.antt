-- One more command of a script is answered: what that adds to the replies of each session, and to the entries.
use Rattle.std.proofs.Common.{◌≡◌, ◌⊎◌, inl, inr, ℕ, ◌+◌, zero, suc, eqb, eq-eqb, subst, append-nil, Bool, true, false, cond, List, [], ◌∷◌, ◌++◌, map, length, Option, None, Some, refl, sym, ap, ◌∙◌, arith}
use Rattle.std.specs.List.{filter, slice_get}
use Rattle.std.specs.Option.{option_map}
use Rattle.std.proofs.lemmas.Bool.{eqb-true}
use Rattle.std.proofs.lemmas.List.{length-append, map-append}
use Rattle.std.proofs.lemmas.List.Elements.{filter-append}
use Rattle.std.proofs.lemmas.Option.{same_Some}
use Rattle.tsdb_model.specs.declared.command.Command.{Command}
use Rattle.tsdb_model.specs.History.{Entry}
use Rattle.tsdb_script.specs.declared.numbered.Numbered.{Numbered}
use Rattle.tsdb_history.specs.History.{IsComplete, replied_command, commands_of, history_entry, replies_to}
use Rattle.tsdb_history.specs.declared.told.Told.{Told}

-- an element keeps its place as the list grows
get-append : {X : Type 0} (xs ys : List X) (k : ℕ) (x : X) → slice_get xs k ≡ Some x → slice_get (xs ++ ys) k ≡ Some x
get-append [] ys k x is = cc
get-append (y ∷ xs) ys zero x is = is
get-append (y ∷ xs) ys (suc k) x is = get-append xs ys k x is

get-last : {X : Type 0} (xs : List X) (x : X) → slice_get (xs ++ x ∷ []) (length xs) ≡ Some x
get-last [] x = refl
get-last (y ∷ xs) x = get-last xs x

-- an element of a longer list is one of the list, or the last
before_or_last : {X : Type 0} (xs : List X) (x : X) (k : ℕ) (y : X) → slice_get (xs ++ x ∷ []) k ≡ Some y
    → (slice_get xs k ≡ Some y) ⊎ ((k ≡ length xs) × (x ≡ y))
before_or_last [] x zero y is = inr (refl, same_Some x y is)
before_or_last [] x (suc k) y is = cc
before_or_last (z ∷ xs) x zero y is = inl is
before_or_last (z ∷ xs) x (suc k) y is = elim (before_or_last xs x k y is) [ inl h ↦ inl h | inr h ↦ inr (omega (arith, h.0), h.1) ]

map-one : {X Y : Type 0} (f : X → Y) (b : Bool) (x : X) → map f (cond b (x ∷ []) []) ≡ cond b (f x ∷ []) []
map-one f true x = refl
map-one f false x = refl

length-one : {X : Type 0} (b : Bool) (x : X) → length (cond b (x ∷ []) []) ≡ cond b 1 0
length-one true x = refl
length-one false x = refl

-- the commands of a session, with one more
pub commands_of-push : (script : List Numbered) (numbered : Numbered) (session : ℕ)
    → commands_of (script ++ numbered ∷ []) session
    ≡ commands_of script session ++ cond (eqb numbered.session session) (numbered.command ∷ []) []
commands_of-push script numbered session =
    ap (map (λ n. n.command)) (filter-append (λ n. eqb n.session session) script (numbered ∷ []))
    ∙ map-append (λ n. n.command) (filter (λ n. eqb n.session session) script) (cond (eqb numbered.session session) (numbered ∷ []) [])
    ∙ ap (λ l. commands_of script session ++ l) (map-one (λ n. n.command) (eqb numbered.session session) numbered)

pub length-commands_of-push : (script : List Numbered) (numbered : Numbered) (session : ℕ)
    → length (commands_of (script ++ numbered ∷ []) session) ≡ length (commands_of script session) + cond (eqb numbered.session session) 1 0
length-commands_of-push script numbered session =
    ap length (commands_of-push script numbered session)
    ∙ length-append (commands_of script session) (cond (eqb numbered.session session) (numbered.command ∷ []) [])
    ∙ ap (λ n. length (commands_of script session) + n) (length-one (eqb numbered.session session) numbered.command)

replies_to-push : (history : List Told) (told : Told) (session : ℕ)
    → replies_to (history ++ told ∷ []) session ≡ replies_to history session ++ cond (eqb told.session session) (told ∷ []) []
replies_to-push history told session = filter-append (λ t. eqb t.session session) history (told ∷ [])

abbrev CountUp : List Told → Type 0
CountUp replies = (k : ℕ) (told : Told) → slice_get replies k ≡ Some told → told.index ≡ k

CountUp-push : (replies : List Told) (told : Told) → told.index ≡ length replies → CountUp replies → CountUp (replies ++ told ∷ [])
CountUp-push replies told at up = λ k other is. elim (before_or_last replies told k other is) [
  | inl h ↦ up k other h
  | inr h ↦ ap (λ t. t.index) (sym h.1) ∙ at ∙ sym h.0
]

CountUp-one : (b : Bool) (replies : List Told) (told : Told) → (b ≡ true → told.index ≡ length replies) → CountUp replies
    → CountUp (replies ++ cond b (told ∷ []) [])
CountUp-one true replies told at up = CountUp-push replies told (at refl) up
CountUp-one false replies told at up = rw append-nil up

module _ (script : List Numbered) (history : List Told) (numbered : Numbered) (told : Told)
    (same : told.session ≡ numbered.session) (at : told.index ≡ length (commands_of script numbered.session)) where
  pub IsComplete-push : IsComplete script history → IsComplete (script ++ numbered ∷ []) (history ++ told ∷ [])
  IsComplete-push is = λ session. (
    ap length (replies_to-push history told session)
        ∙ length-append (replies_to history session) (cond (eqb told.session session) (told ∷ []) [])
        ∙ ap (λ n. length (replies_to history session) + n) (length-one (eqb told.session session) told)
        ∙ ap (λ n. n + cond (eqb told.session session) 1 0) (is session).0
        ∙ ap (λ s. length (commands_of script session) + cond (eqb s session) 1 0) same
        ∙ sym (length-commands_of-push script numbered session),
    counts session,
  ) where
    its_index : (session : ℕ) → eqb told.session session ≡ true → told.index ≡ length (replies_to history session)
    its_index session e =
        at ∙ ap (λ s. length (commands_of script s)) (sym same ∙ eqb-true told.session session e) ∙ sym (is session).0

    counts : (session : ℕ) → CountUp (replies_to (history ++ told ∷ []) session)
    counts session = subst CountUp (sym (replies_to-push history told session))
        (CountUp-one (eqb told.session session) (replies_to history session) told (its_index session) (is session).1)

  pub command_of-last : replied_command (script ++ numbered ∷ []) told ≡ Some numbered.command
  command_of-last =
      ap (λ s. slice_get (commands_of (script ++ numbered ∷ []) s) told.index) same
      ∙ ap (slice_get (commands_of (script ++ numbered ∷ []) numbered.session)) at
      ∙ ap (λ l. slice_get l (length (commands_of script numbered.session))) (commands_of-push script numbered numbered.session
      ∙ ap (λ b. commands_of script numbered.session ++ cond b (numbered.command ∷ []) []) (eq-eqb numbered.session numbered.session refl))
      ∙ get-last (commands_of script numbered.session) numbered.command

-- what was answered is so in a longer script
command_of-longer : (script : List Numbered) (numbered : Numbered) (told : Told) (command : Command)
    → replied_command script told ≡ Some command → replied_command (script ++ numbered ∷ []) told ≡ Some command
command_of-longer script numbered told command is =
    ap (λ l. slice_get l told.index) (commands_of-push script numbered told.session)
    ∙ get-append (commands_of script told.session) (cond (eqb numbered.session told.session) (numbered.command ∷ []) []) told.index command is

made : {X Y : Type 0} (f : X → Y) (o : Option X) (y : Y) → option_map f o ≡ Some y → (x : X) × (o ≡ Some x) × (f x ≡ y)
made f None y e = cc
made f (Some x) y e = (x, refl, same_Some (f x) y e)

abbrev with_reply : Told → Command → Entry
with_reply told command = record { command = command; reply = told.reply }

-- an entry has the command that its reply answers

entry_of-longer : (script : List Numbered) (numbered : Numbered) (told : Told) (entry : Entry)
    → history_entry script told ≡ Some entry → history_entry (script ++ numbered ∷ []) told ≡ Some entry
entry_of-longer script numbered told entry is =
    let m = made (with_reply told) (replied_command script told) entry is in
    ap (option_map (with_reply told)) (command_of-longer script numbered told m.0 m.1) ∙ ap Some m.2

pub heads : {X : Type 0} (x y : X) (xs ys : List X) → x ∷ xs ≡ y ∷ ys → (x ≡ y) × (xs ≡ ys)
heads x y xs ys e = (cc, cc)

answers-longer : (script : List Numbered) (numbered : Numbered) (history : List Told) (entries : List Entry)
    → map (history_entry script) history ≡ map Some entries → map (history_entry (script ++ numbered ∷ [])) history ≡ map Some entries
answers-longer script numbered [] [] are = refl
answers-longer script numbered [] (e ∷ entries) are = cc
answers-longer script numbered (t ∷ history) [] are = cc
answers-longer script numbered (t ∷ history) (e ∷ entries) are =
    let h = heads (history_entry script t) (Some e) (map (history_entry script) history) (map Some entries) are in
    ap (λ o. o ∷ map (history_entry (script ++ numbered ∷ [])) history) (entry_of-longer script numbered t e h.0)
    ∙ ap (λ l. Some e ∷ l) (answers-longer script numbered history entries h.1)

-- one more entry
pub answers-push : (script : List Numbered) (numbered : Numbered) (history : List Told) (told : Told) (entries : List Entry)
    → map (history_entry script) history ≡ map Some entries → replied_command (script ++ numbered ∷ []) told ≡ Some numbered.command
    → map (history_entry (script ++ numbered ∷ [])) (history ++ told ∷ []) ≡ map Some (entries ++ with_reply told numbered.command ∷ [])
answers-push script numbered history told entries are is =
    map-append (history_entry (script ++ numbered ∷ [])) history (told ∷ [])
    ∙ ap (λ l. l ++ history_entry (script ++ numbered ∷ []) told ∷ []) (answers-longer script numbered history entries are)
    ∙ ap (λ o. map Some entries ++ o ∷ []) (ap (option_map (with_reply told)) is)
    ∙ sym (map-append Some entries (with_reply told numbered.command ∷ []))
