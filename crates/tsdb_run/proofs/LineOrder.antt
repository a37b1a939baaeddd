-- Replies in the order of a script's lines are replies to its commands in this order.
use Rattle.std.proofs.Common.{◌≡◌, ◌∙◌, ℕ, eqb, eq-eqb, Bool, true, false, cond, suc, List, [], ◌∷◌, ◌++◌, append_assoc, map, length}
use Rattle.std.proofs.Common.{Some, refl, sym, ap}
use Rattle.std.specs.List.{filter, slice_get}
use Rattle.std.proofs.lemmas.List.{map-append}
use Rattle.std.proofs.lemmas.List.Elements.{filter-append}
use Rattle.tsdb_history.proofs.Entries.{heads}
use Rattle.tsdb_history.specs.History.{IsComplete, IsInLineOrder, replied_command, commands_of, replies_to}
use Rattle.tsdb_history.specs.declared.told.Told.{Told}
use Rattle.tsdb_script.specs.declared.numbered.Numbered.{Numbered}

-- the element behind a prefix
get-behind : {X : Type 0} (before : List X) (x : X) (after : List X)
    → slice_get (before ++ x ∷ after) (length before) ≡ Some x
get-behind [] x after = refl
get-behind (y ∷ before) x after = get-behind before x after

-- so many commands of a session as replies to it, where the sessions are the same
as_many : (script : List Numbered) (history : List Told) (session : ℕ) → IsInLineOrder script history
    → length (replies_to history session) ≡ length (commands_of script session)
as_many [] [] session same = refl
as_many [] (t ∷ history) session same = cc
as_many (n ∷ script) [] session same = cc
as_many (n ∷ script) (t ∷ history) session same = by (eqb t.session session) (eqb n.session session)
    (ap (λ s. eqb s session) both.0) (as_many script history session both.1)
  where
    both : (t.session ≡ n.session) × IsInLineOrder script history
    both = heads t.session n.session (map (λ u. u.session) history) (map (λ m. m.session) script) same

    by : (a b : Bool) → a ≡ b → length (replies_to history session) ≡ length (commands_of script session)
        → length (cond a (t ∷ replies_to history session) (replies_to history session))
        ≡ length (map (λ m. m.command) (cond b (n ∷ filter (λ m. eqb m.session session) script)
        (filter (λ m. eqb m.session session) script)))
    by true true is more = ap suc more
    by false false is more = more
    by true false is more = absurd cc
    by false true is more = absurd cc

module _ (all : List Numbered) (every : List Told) (complete : IsComplete all every) where
  -- the reply behind these replies is to the command behind these commands
  its_command : (before script : List Numbered) (done history : List Told) (numbered : Numbered) (told : Told)
      → IsInLineOrder before done → told.session ≡ numbered.session → before ++ numbered ∷ script ≡ all
      → done ++ told ∷ history ≡ every → replied_command all told ≡ Some numbered.command
  its_command before script done history numbered told front same scripts histories =
      ap (slice_get (commands_of all told.session)) (index ∙ as_many before done told.session front)
      ∙ ap (λ l. slice_get (commands_of l told.session) (length (commands_of before told.session))) (sym scripts)
      ∙ ap (λ l. slice_get l (length (commands_of before told.session))) commands
      ∙ get-behind (commands_of before told.session) numbered.command (commands_of script told.session)
    where
      replies : replies_to (done ++ told ∷ history) told.session
          ≡ replies_to done told.session ++ told ∷ replies_to history told.session
      replies = filter-append (λ t. eqb t.session told.session) done (told ∷ history)
          ∙ ap (λ b. replies_to done told.session ++ cond b (told ∷ replies_to history told.session)
          (replies_to history told.session)) (eq-eqb told.session told.session refl)

      index : told.index ≡ length (replies_to done told.session)
      index = (complete told.session).1 (length (replies_to done told.session)) told
          (ap (λ l. slice_get (replies_to l told.session) (length (replies_to done told.session))) (sym histories)
          ∙ ap (λ l. slice_get l (length (replies_to done told.session))) replies
          ∙ get-behind (replies_to done told.session) told (replies_to history told.session))

      kept : filter (λ n. eqb n.session told.session) (before ++ numbered ∷ script)
          ≡ filter (λ n. eqb n.session told.session) before
          ++ numbered ∷ filter (λ n. eqb n.session told.session) script
      kept = filter-append (λ n. eqb n.session told.session) before (numbered ∷ script)
          ∙ ap (λ b. filter (λ n. eqb n.session told.session) before
          ++ cond b (numbered ∷ filter (λ n. eqb n.session told.session) script)
          (filter (λ n. eqb n.session told.session) script)) (eq-eqb numbered.session told.session (sym same))

      commands : commands_of (before ++ numbered ∷ script) told.session
          ≡ commands_of before told.session ++ numbered.command ∷ commands_of script told.session
      commands = ap (map (λ n. n.command)) kept
          ∙ map-append (λ n. n.command) (filter (λ n. eqb n.session told.session) before)
          (numbered ∷ filter (λ n. eqb n.session told.session) script)

  from_here : (before script : List Numbered) (done history : List Told) → IsInLineOrder before done
      → IsInLineOrder script history → before ++ script ≡ all → done ++ history ≡ every
      → map (replied_command all) history ≡ map (λ numbered. Some numbered.command) script
  from_here before [] done [] front same scripts histories = refl
  from_here before [] done (t ∷ history) front same scripts histories = cc
  from_here before (n ∷ script) done [] front same scripts histories = cc
  from_here before (n ∷ script) done (t ∷ history) front same scripts histories =
      ap (λ c. c ∷ map (replied_command all) history)
      (its_command before script done history n t front both.0 scripts histories)
      ∙ ap (λ l. Some n.command ∷ l) (from_here (before ++ n ∷ []) script (done ++ t ∷ []) history longer both.1
      (append_assoc before (n ∷ []) script ∙ scripts) (append_assoc done (t ∷ []) history ∙ histories))
    where
      both : (t.session ≡ n.session) × IsInLineOrder script history
      both = heads t.session n.session (map (λ u. u.session) history) (map (λ m. m.session) script) same

      longer : IsInLineOrder (before ++ n ∷ []) (done ++ t ∷ [])
      longer = map-append (λ u. u.session) done (t ∷ []) ∙ ap (λ l. l ++ t.session ∷ []) front
          ∙ ap (λ s. map (λ m. m.session) before ++ s ∷ []) both.0 ∙ sym (map-append (λ m. m.session) before (n ∷ []))

  pub their_own : IsInLineOrder all every → map (replied_command all) every ≡ map (λ numbered. Some numbered.command) all
  their_own same = from_here [] all [] every refl same refl refl
