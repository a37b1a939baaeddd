-- Bytes are one script, or have one first bad line, and not both. What every script keeps to.
use Rattle.std.proofs.Common.{◌≡◌, ℕ, ◌+◌, ◌<◌, ◌≤◌, true≢false, List, [], ◌∷◌, ◌++◌, length, refl, sym, ap, ◌∙◌, arith, subst, append_assoc, length-append}
use Rattle.std.specs.Prelude.{◌↔◌, All}
use Rattle.std.specs.List.{concat}
use Rattle.std.proofs.lemmas.List.{same_from_push}
use Rattle.std.proofs.lemmas.List.Elements.{All-nil, All-push}
use Rattle.std.proofs.lemmas.List.Folds.{concat-append}
use Rattle.tsdb_model.specs.Commands.{IsWellFormed}
use Rattle.tsdb_script.specs.Types.{Numbered}
use Rattle.tsdb_script.specs.Reading.{ScriptLine, line_behind, lines_of, sessions_of, session_count, Give, no_line, skipped_line, command_line, IsBadLine, IsCommand, IsFirstBadLine, IsScript, IsSkipped, IsScriptWithinLimits}
use Rattle.tsdb_script.proofs.LineLemmas.{one_line_command, one_line_fault, command_not_bad, skipped_not_bad, past_limit}
use Rattle.tsdb_script.proofs.LinesLemmas.{concat-lines_of, goes_on, GoesOn}
use Rattle.tsdb_script.proofs.MeaningLaws.{well_formed as well_formed_meaning}
use Rattle.tsdb_script.proofs.StatementLemmas.{has_parts}
use Rattle.tsdb_script.proofs.SessionLemmas.{as_many, session_number, sessions-push}
use Rattle.tsdb_script.proofs.WordLists.{earlier, later, order, same_place}

-- ---- lines give one list of commands

no_last : (front : List (List ℕ)) (line : List ℕ) → ◌≡◌ {A = List (List ℕ)} [] (front ++ line ∷ []) → ⊥
no_last front line e = omega (arith, ap length e, length-append front (line ∷ []))

-- what holds of a line holds of the same line behind the same lines
moved : (P : ScriptLine → Type 0) (front other : List (List ℕ)) (script said : List Numbered) (line last : List ℕ)
    → front ≡ other → script ≡ said → line ≡ last → P (line_behind front script line) → P (line_behind other said last)
moved P front other script said line last fronts scripts lines holds =
    subst (λ l. P (line_behind other said l)) lines
    (subst (λ s. P (line_behind other s line)) scripts (subst (λ f. P (line_behind f script line)) fronts holds))

skips : (line : ScriptLine) (numbered : Numbered) → IsSkipped line → IsCommand line numbered → ⊥
skips line numbered skipped is = true≢false (sym skipped.says_nothing ∙ is.says_something)

same_commands : (lines others : List (List ℕ)) (script other : List Numbered) → Give lines script → Give others other → lines ≡ others → script ≡ other
same_commands lines others script other no_line no_line e = refl
same_commands lines others script other no_line (skipped_line front said line gives is) e = absurd (no_last front line e)
same_commands lines others script other no_line (command_line front said line numbered gives is) e = absurd (no_last front line e)
same_commands lines others script other (skipped_line front said line gives is) no_line e = absurd (no_last front line (sym e))
same_commands lines others script other (command_line front said line numbered gives is) no_line e = absurd (no_last front line (sym e))
same_commands lines others script other (skipped_line f s l gives is) (skipped_line g t m again skipped) e = same_commands f g s t gives again (same_from_push f g l m e).0
same_commands lines others script other (skipped_line f s l gives skipped) (command_line g t m numbered again is) e =
    let same = same_from_push f g l m e in
    absurd (skips (line_behind g t m) numbered (moved IsSkipped f g s t l m same.0 (same_commands f g s t gives again same.0) same.1 skipped) is)
same_commands lines others script other (command_line f s l numbered gives is) (skipped_line g t m again skipped) e =
    let same = same_from_push f g l m e in
    absurd (skips (line_behind g t m) numbered skipped
    (moved (λ line. IsCommand line numbered) f g s t l m same.0 (same_commands f g s t gives again same.0) same.1 is))
same_commands lines others script other (command_line f s l one gives is) (command_line g t m two again also) e =
    let same = same_from_push f g l m e in
    let first = same_commands f g s t gives again same.0 in
    let second = one_line_command (line_behind g t m) one two (moved (λ line. IsCommand line one) f g s t l m same.0 first same.1 is) also in
    ap (λ s. s ++ one ∷ []) first ∙ ap (λ (n : Numbered). t ++ n ∷ []) second

-- ---- a bad line

-- lines among which a bad one stands give no commands
module _ (before : List (List ℕ)) (line : List ℕ) (script : List Numbered) (kind : ℕ) (good : Give before script) (bad : IsBadLine (line_behind before script line) kind) where
  -- the last of some lines is none that is good, and stands behind the bad one
  stands : (front rest : List (List ℕ)) (last : List ℕ) (said : List Numbered) → front ++ last ∷ [] ≡ before ++ line ∷ rest → Give front said
      → ((kind : ℕ) → ¬ IsBadLine (line_behind front said last) kind) → (more : List (List ℕ)) × (front ≡ before ++ line ∷ more)
  stands front rest last said e gives fine = elim (order front last [] before line rest e) [
    | earlier more is ↦ absurd (omega (
      arith,
      ap length e,
      ap length is,
      length-append front (last ∷ []),
      length-append before (line ∷ rest),
      length-append front (last ∷ more),
    ))
    | later more is ↦ (more, is)
    | same_place fronts is ↦ absurd (fine kind (moved (λ line. IsBadLine line kind) before front script said line last (sym fronts)
        (same_commands before front script said good gives (sym fronts)) (sym is) bad))
  ]

  clash : (lines rest : List (List ℕ)) (said : List Numbered) → Give lines said → lines ≡ before ++ line ∷ rest → ⊥
  clash lines rest said no_line e = omega (arith, ap length e, length-append before (line ∷ rest))
  clash lines rest said (skipped_line front s last gives is) e =
      let h = stands front rest last s e gives (λ kind. skipped_not_bad (line_behind front s last) kind is) in clash front h.0 s gives h.1
  clash lines rest said (command_line front s last numbered gives is) e =
      let h = stands front rest last s e gives (λ kind. command_not_bad (line_behind front s last) numbered kind is) in clash front h.0 s gives h.1

-- ---- the laws

pub same_script : (bytes : List ℕ) (one other : List Numbered) → IsScript bytes one → IsScript bytes other → one ≡ other
same_script bytes one other is again = same_commands (lines_of bytes) (lines_of bytes) one other is again refl

pub not_both : (bytes : List ℕ) (script : List Numbered) (line kind : ℕ) → IsScript bytes script → ¬ IsFirstBadLine bytes line kind
not_both bytes script line kind is bad = clash bad.before bad.line bad.script kind bad.good bad.bad (lines_of bytes) bad.behind script is bad.lines

pub same_first_bad : (bytes : List ℕ) (line kind other_line other_kind : ℕ) → IsFirstBadLine bytes line kind → IsFirstBadLine bytes other_line other_kind
    → (line ≡ other_line) × (kind ≡ other_kind)
same_first_bad bytes line kind other_line other_kind a b =
    elim (order a.before a.line a.behind b.before b.line b.behind (sym a.lines ∙ b.lines)) [
      | earlier more is ↦ absurd (clash a.before a.line a.script kind a.good a.bad b.before more b.script b.good is)
      | later more is ↦ absurd (clash b.before b.line b.script other_kind b.good b.bad a.before more a.script a.good is)
      | same_place before here ↦ (
        a.count_is ∙ ap (λ (l : List (List ℕ)). length l + 1) before ∙ sym b.count_is,
        one_line_fault (line_behind b.before b.script b.line) kind other_kind
            (moved (λ line. IsBadLine line kind) a.before b.before a.script b.script a.line b.line before (same_commands a.before b.before a.script b.script a.good b.good before) here a.bad) b.bad,
      )
    ]

-- ---- what every script keeps to

lines_short : (lines : List (List ℕ)) (script : List Numbered) → Give lines script → length (concat lines) ≤ 67108864
lines_short lines script no_line = omega arith
lines_short lines script (skipped_line front before line gives is) = omega (arith, is.script_bytes, ap length (concat-append front (line ∷ [])), length-append (concat front) (line ++ []), length-append line [])
lines_short lines script (command_line front before line numbered gives is) = omega (arith, is.script_bytes, ap length (concat-append front (line ∷ [])), length-append (concat front) (line ++ []), length-append line [])

abbrev IsNumber : ℕ → Type 0
IsNumber session = (1 ≤ session) × (session ≤ 999)

abbrev AreWithin : List ℕ → Type 0
AreWithin sessions = (length sessions ≤ 1000000) × (session_count sessions ≤ 8) × All IsNumber sessions

lines_sessions : (lines : List (List ℕ)) (script : List Numbered) → Give lines script → AreWithin (sessions_of script)
lines_sessions lines script no_line = (omega arith, omega arith, All-nil IsNumber)
lines_sessions lines script (skipped_line front before line gives is) = lines_sessions front before gives
lines_sessions lines script (command_line front before line numbered gives is) = subst AreWithin (sym (sessions-push before numbered)) (
  omega (arith, is.commands, length-append (sessions_of before) (numbered.session ∷ [])),
  is.sessions,
  All-push IsNumber (sessions_of before) numbered.session (lines_sessions front before gives).2 (session_number _ _ is.tokens.number),
)

pub well_formed_lines : (lines : List (List ℕ)) (script : List Numbered) → Give lines script → All (λ numbered. IsWellFormed numbered.command) script
well_formed_lines lines script no_line = All-nil (λ (numbered : Numbered). IsWellFormed numbered.command)
well_formed_lines lines script (skipped_line front before line gives is) = well_formed_lines front before gives
well_formed_lines lines script (command_line front before line numbered gives is) =
    All-push (λ (numbered : Numbered). IsWellFormed numbered.command) before numbered (well_formed_lines front before gives)
    (well_formed_meaning is.syntax numbered.command (has_parts is.statement is.syntax is.fits) is.means)

pub within_limits : (bytes : List ℕ) (script : List Numbered) → IsScript bytes script → IsScriptWithinLimits bytes script
within_limits bytes script is = record {
  short = omega (arith, lines_short (lines_of bytes) script is, ap length (concat-lines_of bytes));
  commands = omega (arith, (lines_sessions (lines_of bytes) script is).0, as_many script);
  sessions = (lines_sessions (lines_of bytes) script is).1;
  numbers = (lines_sessions (lines_of bytes) script is).2;
}

pub well_formed : (bytes : List ℕ) (script : List Numbered) → IsScript bytes script → All (λ numbered. IsWellFormed numbered.command) script
well_formed bytes script is = well_formed_lines (lines_of bytes) script is

-- ---- a script that is too long

-- no script begins with so many bytes
pub cut_long : (front rest : List ℕ) (script : List Numbered) → 67108864 < length front → ¬ IsScript (front ++ rest) script
cut_long front rest script long is = omega (arith, (within_limits (front ++ rest) script is).short, length-append front rest)

-- where the limit is passed in the line behind these, the first bad line is one of these or that one, however it goes on
module _ (bytes other : List ℕ) (front : List (List ℕ)) (last last' : List ℕ) (others others' : List (List ℕ))
    (lines : lines_of bytes ≡ front ++ last ∷ others) (lines' : lines_of other ≡ front ++ last' ∷ others')
    (long : 67108864 < length (concat front) + length last) (long' : 67108864 < length (concat front) + length last') where
  not_behind : (before more : List (List ℕ)) (script : List Numbered) → Give before script → before ≡ front ++ last ∷ more → ⊥
  not_behind before more script gives e =
      omega (arith, long, lines_short before script gives, ap length (ap concat e ∙ concat-append front (last ∷ more)), length-append (concat front) (last ++ concat more), length-append last (concat more))

  stays_bad : (line kind : ℕ) → IsFirstBadLine bytes line kind → IsFirstBadLine other line kind
  stays_bad line kind bad =
      elim (order front last others bad.before bad.line bad.behind (sym lines ∙ bad.lines)) [
        | earlier more is ↦ absurd (not_behind bad.before more bad.script bad.good is)
        | later more is ↦ record {
          before = bad.before;
          line = bad.line;
          behind = more ++ last' ∷ others';
          lines = lines' ∙ ap (λ l. l ++ last' ∷ others') is ∙ append_assoc bad.before (bad.line ∷ more) (last' ∷ others');
          count_is = bad.count_is;
          script = bad.script;
          good = bad.good;
          bad = bad.bad;
        }
        | same_place before here ↦ record {
          before = front;
          line = last';
          behind = others';
          lines = lines';
          count_is = bad.count_is ∙ ap (λ (l : List (List ℕ)). length l + 1) (sym before);
          script = bad.script;
          good = subst (λ l. Give l bad.script) (sym before) bad.good;
          bad = subst (IsBadLine (line_behind front bad.script last')) (sym (nine bad.script before here bad.bad)) (past_limit (line_behind front bad.script last') long');
        }
      ]
    where
      nine : (script : List Numbered) → front ≡ bad.before → last ≡ bad.line → IsBadLine (line_behind bad.before script bad.line) kind → kind ≡ 9
      nine script before here is =
          one_line_fault (line_behind front script last) kind 9 (moved (λ line. IsBadLine line kind) bad.before front script script bad.line last (sym before) refl (sym here) is)
          (past_limit (line_behind front script last) long)

-- the first bad line of a script that is too long stands in what is read of it
pub cut_bad : (front rest : List ℕ) (line kind : ℕ) → 67108864 < length front → IsFirstBadLine front line kind ↔ IsFirstBadLine (front ++ rest) line kind
cut_bad [] rest line kind long = absurd (omega arith)
cut_bad (b ∷ bytes) rest line kind long = (
  stays_bad front (front ++ rest) g.front g.last (g.last ++ g.more) [] g.others g.short g.long passed further line kind,
  stays_bad (front ++ rest) front g.front (g.last ++ g.more) g.last g.others [] g.long g.short further passed line kind,
)
  where
    front : List ℕ
    front = b ∷ bytes

    g : GoesOn front rest
    g = goes_on b bytes rest

    passed : 67108864 < length (concat g.front) + length g.last
    passed =
        omega (arith, long, ap length (sym (concat-lines_of front) ∙ ap concat g.short ∙ concat-append g.front (g.last ∷ [])), length-append (concat g.front) (g.last ++ []), length-append g.last [])

    further : 67108864 < length (concat g.front) + length (g.last ++ g.more)
    further = omega (arith, passed, length-append g.last g.more)
