-- What the steps of the reader of lines keep and give. No public clause cites them.
use Rattle.std.specs.Prelude.{◌≡◌, ℕ, ◌<◌, ◌≤◌, ◌==◌, List, [], ◌∷◌, ◌++◌, length}
use Rattle.std.specs.List.{IsDistinct}
use Rattle.std.specs.Set.{is_member}
use Rattle.tsdb_script.specs.Types.{LineFault, Numbered, ScriptFault, Token}
use Rattle.tsdb_script.specs.declared.fault.LineFault.TheVariants.{Bad, Memory}
use Rattle.tsdb_script.specs.declared.fault.ScriptFault.TheVariants as script
use Rattle.tsdb_script.specs.declared.token.Token.TheVariants.{Word}
use Rattle.tsdb_base.specs.Limits.{max_commands, max_sessions}
use Rattle.tsdb_script.specs.Reading.{sessions_of, session_count, IsSession, ScriptLine}

-- a line of these bytes behind these commands, which ends at this place of the script
abbrev pub script_line_at : List ℕ → List Numbered → ℕ → ScriptLine
script_line_at bytes script end = record { bytes = bytes; sessions = sessions_of script; end = end }

-- the different ones of these sessions, each once
pub record AreDifferentOf (different sessions : List ℕ) : Type 0 where
  pub distinct : IsDistinct (λ a b. a == b) different
  pub same : (session : ℕ) → is_member (λ a b. a == b) different session ≡ is_member (λ a b. a == b) sessions session
  pub few : length different ≤ max_sessions

-- a command of this session may follow commands of these sessions
abbrev pub HasSessionRoom : List ℕ → ℕ → Type 0
HasSessionRoom sessions session =
    (length sessions < max_commands) × (session_count (sessions ++ session ∷ []) ≤ max_sessions)

-- the tokens are a session and the rest
pub record HasSession (tokens rest : List Token) (session : ℕ) : Type 0 where
  pub word : List ℕ
  pub whole : tokens ≡ Word word ∷ rest
  pub number : IsSession word session

-- the tokens do not begin with a session
pub record HasNoSession (tokens : List Token) (kind : ℕ) : Type 0 where
  pub none : (rest : List Token) (session : ℕ) → ¬ HasSession tokens rest session
  pub decides : kind ≡ 1

-- the fault of a script whose first bad line has this number and fault
abbrev pub fault_at : ℕ → LineFault → ScriptFault
fault_at line (Bad kind) = script.Bad line kind
fault_at line Memory = script.Memory
