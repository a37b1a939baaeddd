-- The text of the output, one function of a script and its history, and what a sink holds of it.
use Rattle.std.specs.Prelude.{◌≡◌, ℕ, ◌==◌, not, List, [], ◌∷◌, ◌++◌, Option, map, filter}
use Rattle.std.specs.List.{filter_map, flat_map}
use Rattle.std.specs.Io.KnownBytes.{Appends}
use Rattle.tsdb_print.specs.Text.{order_text, reply_text, session_text}
use Rattle.tsdb_script.specs.declared.numbered.Numbered.{Numbered}
use Rattle.tsdb_history.specs.History.{history_entry, replies_to}
use Rattle.tsdb_history.specs.declared.told.Told.{Told}

-- the sessions of a script, in the order in which they first appear
abbrev pub distinct_sessions : List Numbered → List ℕ
distinct_sessions [] = []
distinct_sessions (numbered ∷ script) =
    numbered.session ∷ filter (λ session. not (session == numbered.session)) (distinct_sessions script)

-- the replies to a session, in their order, each by its command
abbrev pub replies_text : List Numbered → List Told → ℕ → List ℕ
replies_text script history session =
    flat_map (λ entry. reply_text entry.command entry.reply)
    (filter_map (history_entry script) (replies_to history session))

-- the heading of a session, and the replies to it
abbrev pub session_part : List Numbered → List Told → ℕ → List ℕ
session_part script history session = session_text session ++ replies_text script history session

-- all that a run prints: the sessions, then the order of the commands
abbrev pub output_text : List Numbered → List Told → List ℕ
output_text script history =
    flat_map (session_part script history) (distinct_sessions script) ++ order_text (map (λ told. told.session) history)

-- what was held has grown by a prefix of the text, which may be none of it or all
abbrev pub AppendsPrefix : Option (List ℕ) → Option (List ℕ) → List ℕ → Type 0
AppendsPrefix old new text = (prefix rest : List ℕ) × (text ≡ prefix ++ rest) × Appends old new prefix
