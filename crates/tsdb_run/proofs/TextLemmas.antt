-- The text of the output, by its parts.
use Rattle.std.proofs.Common.{◌≡◌, ℕ, ◌+◌, ◌<◌, zero, suc, add-one, arith, eqb, eq-eqb, get_or, Bool, true, false, cond, not, ◌||◌, List, [], ◌∷◌, ◌++◌, append-nil, append_assoc, drop, length, map, Some, refl, sym, ap, ◌∙◌}
use Rattle.std.specs.List.{cons_option, filter, filter_map, flat_map, list_any}
use Rattle.std.specs.Option.{option_map}
use Rattle.std.proofs.lemmas.Bool.{eqb-true, false≢true}
use Rattle.std.proofs.lemmas.List.{length-map}
use Rattle.std.proofs.lemmas.List.Elements.{filter-append}
use Rattle.std.proofs.lemmas.Map.Views.{any-filter_same}
use Rattle.tsdb_print.specs.Text.{reply_text}
use Rattle.tsdb_script.specs.declared.numbered.Numbered.{Numbered}
use Rattle.tsdb_history.specs.History.{replied_command, history_entry}
use Rattle.tsdb_model.specs.History.{Entry}
use Rattle.tsdb_model.specs.declared.command.Command.{Command}
use Rattle.tsdb_run.proofs.LineOrder.{their_own}
use Rattle.tsdb_run.specs.Output.{replies_text, distinct_sessions}
use Rattle.tsdb_run.specs.Steps.{IsAnswered, reply_text_of, with_session}
use Rattle.tsdb_history.specs.declared.told.Told.{Told}

heads : {X : Type 0} (x y : X) (xs ys : List X) → x ∷ xs ≡ y ∷ ys → (x ≡ y) × (xs ≡ ys)
heads x y xs ys e = (cc, cc)

abbrev is_other : ℕ → ℕ → Bool
is_other session other = not (eqb other session)

different : (a b : ℕ) → eqb a b ≡ false → (t : Bool) → eqb b a ≡ t → not t ≡ true
different a b e true h = absurd (false≢true (sym e ∙ eq-eqb a b (sym (eqb-true b a h))))
different a b e false h = refl

with_session-there : (sessions : List ℕ) (session : ℕ) → list_any (λ other. eqb other session) sessions ≡ true → with_session sessions session ≡ sessions
with_session-there sessions session e = ap (λ b. cond b sessions (sessions ++ session ∷ [])) e

with_session-new : (sessions : List ℕ) (session : ℕ) → list_any (λ other. eqb other session) sessions ≡ false → with_session sessions session ≡ sessions ++ session ∷ []
with_session-new sessions session e = ap (λ b. cond b sessions (sessions ++ session ∷ [])) e

module _ (first session : ℕ) (sessions : List ℕ) where
  others-longer : filter (is_other first) (sessions ++ session ∷ []) ≡ filter (is_other first) sessions ++ cond (is_other first session) (session ∷ []) []
  others-longer = filter-append (is_other first) sessions (session ∷ [])

  no_other : eqb first session ≡ true → is_other first session ≡ false
  no_other e = ap not (eq-eqb session first (sym (eqb-true first session e)))

  behind_first : (t u : Bool) → eqb first session ≡ t → list_any (λ other. eqb other session) sessions ≡ u
      → first ∷ filter (is_other first) (with_session sessions session) ≡ with_session (first ∷ filter (is_other first) sessions) session
  behind_first true true e there =
      ap (λ l. first ∷ filter (is_other first) l) (with_session-there sessions session there)
      ∙ sym (with_session-there (first ∷ filter (is_other first) sessions) session (ap (λ b. b || list_any (λ other. eqb other session) (filter (is_other first) sessions)) e))
  behind_first true false e new =
      ap (λ l. first ∷ filter (is_other first) l) (with_session-new sessions session new)
      ∙ ap (λ l. first ∷ l) (others-longer ∙ ap (λ b. filter (is_other first) sessions ++ cond b (session ∷ []) []) (no_other e) ∙ append-nil (filter (is_other first) sessions))
      ∙ sym (with_session-there (first ∷ filter (is_other first) sessions) session (ap (λ b. b || list_any (λ other. eqb other session) (filter (is_other first) sessions)) e))
  behind_first false true e there =
      ap (λ l. first ∷ filter (is_other first) l) (with_session-there sessions session there)
      ∙ sym (with_session-there (first ∷ filter (is_other first) sessions) session
      (ap (λ b. b || list_any (λ other. eqb other session) (filter (is_other first) sessions)) e ∙ found ∙ there))
    where
      found : list_any (λ other. eqb other session) (filter (is_other first) sessions) ≡ list_any (λ other. eqb other session) sessions
      found = any-filter_same (λ other. eqb other session) (is_other first) true
          (λ k h. ap (is_other first) (eqb-true k session h) ∙ different first session e (eqb session first) refl) sessions
  behind_first false false e new =
      ap (λ l. first ∷ filter (is_other first) l) (with_session-new sessions session new)
      ∙ ap (λ l. first ∷ l) (others-longer ∙ ap (λ b. filter (is_other first) sessions ++ cond b (session ∷ []) []) (different first session e (eqb session first) refl))
      ∙ sym (with_session-new (first ∷ filter (is_other first) sessions) session
      (ap (λ b. b || list_any (λ other. eqb other session) (filter (is_other first) sessions)) e ∙ found ∙ new))
    where
      found : list_any (λ other. eqb other session) (filter (is_other first) sessions) ≡ list_any (λ other. eqb other session) sessions
      found = any-filter_same (λ other. eqb other session) (is_other first) true
          (λ k h. ap (is_other first) (eqb-true k session h) ∙ different first session e (eqb session first) refl) sessions

-- the sessions of a script with one more command
pub sessions_of-push : (script : List Numbered) (numbered : Numbered)
    → distinct_sessions (script ++ numbered ∷ []) ≡ with_session (distinct_sessions script) numbered.session
sessions_of-push [] numbered = refl
sessions_of-push (first ∷ script) numbered =
    ap (λ l. first.session ∷ filter (is_other first.session) l) (sessions_of-push script numbered)
    ∙ behind_first first.session numbered.session (distinct_sessions script) (eqb first.session numbered.session)
    (list_any (λ other. eqb other numbered.session) (distinct_sessions script)) refl refl

-- each command has a reply
pub length-answered : (script : List Numbered) (history : List Told) → IsAnswered script history → length history ≡ length script
length-answered script history is =
    sym (length-map history (λ told. told.session)) ∙ ap length is.in_line_order ∙ length-map script (λ numbered. numbered.session)

-- the replies to a session, of commands and their replies side by side
abbrev pub side_by_side : ℕ → List Numbered → List Told → List ℕ
side_by_side session [] history = []
side_by_side session (numbered ∷ script) [] = []
side_by_side session (numbered ∷ script) (told ∷ history) = reply_text_of session numbered told ++ side_by_side session script history

-- a reply with its command, and the text of both
abbrev answered : Told → Command → Entry
answered told command = record { command = command; reply = told.reply }

abbrev entry_text : Entry → List ℕ
entry_text entry = reply_text entry.command entry.reply

beside : (all script : List Numbered) (history : List Told) (session : ℕ) → map (replied_command all) history ≡ map (λ numbered. Some numbered.command) script
    → flat_map entry_text (filter_map (history_entry all) (filter (λ told. eqb told.session session) history)) ≡ side_by_side session script history
beside all [] [] session same = refl
beside all [] (t ∷ history) session same = cc
beside all (n ∷ script) [] session same = refl
beside all (n ∷ script) (t ∷ history) session same =
    let h = heads (replied_command all t) (Some n.command) (map (replied_command all) history) (map (λ numbered. Some numbered.command) script) same in
    let more = beside all script history session h.1 in
    let others = filter (λ told. eqb told.session session) history in
    elim (eqb t.session session) as (λ b. flat_map entry_text (filter_map (history_entry all) (cond b (t ∷ others) others))
    ≡ cond b (reply_text n.command t.reply) [] ++ side_by_side session script history) [
      | true ↦ ap (λ c. flat_map entry_text (cons_option (option_map (answered t) c) (filter_map (history_entry all) others))) h.0
          ∙ ap (λ l. reply_text n.command t.reply ++ l) more
      | false ↦ more
    ]

-- the replies to a session are those of its commands, each in its place
pub replies_text-answered : (script : List Numbered) (history : List Told) (session : ℕ) → IsAnswered script history
    → replies_text script history session ≡ side_by_side session script history
replies_text-answered script history session is =
    beside script script history session (their_own script history is.history_of.complete is.in_line_order)

next_reply : (session : ℕ) (script : List Numbered) (history : List Told) (i : ℕ) (numbered : Numbered) (told : Told) → i < length script → i < length history
    → side_by_side session (drop i script) (drop i history)
    ≡ reply_text_of session (get_or script i numbered) (get_or history i told) ++ side_by_side session (drop (suc i) script) (drop (suc i) history)
next_reply session [] history i numbered told a b = absurd (omega arith)
next_reply session (m ∷ script) [] i numbered told a b = absurd (omega arith)
next_reply session (m ∷ script) (u ∷ history) zero numbered told a b = refl
next_reply session (m ∷ script) (u ∷ history) (suc i) numbered told a b = next_reply session script history i numbered told (omega arith) (omega arith)

-- the replies from a place on begin with the one there
pub side_by_side-drop : (session : ℕ) (script : List Numbered) (history : List Told) (i : ℕ) (numbered : Numbered) (told : Told)
    → i < length script → i < length history → numbered ≡ get_or script i numbered → told ≡ get_or history i told
    → side_by_side session (drop i script) (drop i history)
    ≡ reply_text_of session numbered told ++ side_by_side session (drop (i + 1) script) (drop (i + 1) history)
side_by_side-drop session script history i numbered told a b its is = rw add-one
    (next_reply session script history i numbered told a b
    ∙ ap (λ n. reply_text_of session n (get_or history i told) ++ side_by_side session (drop (suc i) script) (drop (suc i) history)) (sym its)
    ∙ ap (λ t. reply_text_of session numbered t ++ side_by_side session (drop (suc i) script) (drop (suc i) history)) (sym is))

next_part : (f : ℕ → List ℕ) (sessions : List ℕ) (i session : ℕ) → i < length sessions
    → flat_map f (drop i sessions) ≡ f (get_or sessions i session) ++ flat_map f (drop (suc i) sessions)
next_part f [] i session a = absurd (omega arith)
next_part f (s ∷ sessions) zero session a = refl
next_part f (s ∷ sessions) (suc i) session a = next_part f sessions i session (omega arith)

-- the parts from a session on begin with its part
pub flat_map-drop : (f : ℕ → List ℕ) (sessions : List ℕ) (last : List ℕ) (i session : ℕ) → i < length sessions
    → flat_map f (drop i sessions) ++ last ≡ f (get_or sessions i session) ++ (flat_map f (drop (i + 1) sessions) ++ last)
flat_map-drop f sessions last i session a = rw add-one
    (ap (λ l. l ++ last) (next_part f sessions i session a) ∙ append_assoc (f (get_or sessions i session)) (flat_map f (drop (suc i) sessions)) last)
