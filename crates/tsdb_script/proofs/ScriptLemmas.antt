-- A script that is read line by line.
use Rattle.std.proofs.Common.{◌≡◌, ℕ, ◌+◌, ◌-◌, ◌<◌, ◌≤◌, List, [], ◌∷◌, ◌++◌, length, refl, sym, ap, ◌∙◌, arith, subst, append_assoc, append-nil, length-append, eqb, true}
use Rattle.std.specs.List.{concat}
use Rattle.std.proofs.lemmas.Bool.{eqb-true}
use Rattle.std.proofs.lemmas.List.Folds.{concat-append}
use Rattle.tsdb_script.specs.Types.{LineFault, Numbered}
use Rattle.tsdb_script.specs.declared.fault.LineFault.TheVariants.{Bad, Memory}
use Rattle.tsdb_script.specs.LineSteps.{fault_at, script_line_at, AreDifferentOf}
use Rattle.tsdb_script.specs.Reading.{ScriptLine, lines_of, line_behind, sessions_of, Give, no_line, skipped_line, command_line, IsBadLine, IsCommand, IsFirstBadLine, IsScript, IsSkipped, RefusesScript}
use Rattle.tsdb_script.specs.Steps.{FaultsWith}

-- the lines in front give these commands, and the rest is not read
pub record IsReadSoFar (bytes : List ℕ) (script : List Numbered) (different : List ℕ) (rest : List ℕ) (number : ℕ) : Type 0 where
  pub front : List (List ℕ)
  pub lines : lines_of bytes ≡ front ++ lines_of rest
  pub whole : bytes ≡ concat front ++ rest
  pub count_is : number ≡ length front
  pub some : number ≤ length (concat front)
  pub short : length (concat front) ≤ 67108864
  pub gives : Give front script
  pub sessions : AreDifferentOf different (sessions_of script)

pub begin : (bytes : List ℕ) → AreDifferentOf [] [] → IsReadSoFar bytes [] [] bytes 0
begin bytes none = record {
  front = [];
  lines = refl;
  whole = refl;
  count_is = refl;
  some = omega arith;
  short = omega arith;
  gives = no_line;
  sessions = none;
}

module _ (bytes : List ℕ) (script : List Numbered) (different rest : List ℕ) (number : ℕ) (line others : List ℕ)
    (so_far : IsReadSoFar bytes script different rest number)
    (splits : rest ≡ line ++ others) (first : lines_of rest ≡ line ∷ lines_of others) (some : 0 < length line) where
  all_lines : lines_of bytes ≡ so_far.front ++ line ∷ lines_of others
  all_lines = so_far.lines ∙ ap (λ l. so_far.front ++ l) first

  pushed : concat (so_far.front ++ line ∷ []) ≡ concat so_far.front ++ line
  pushed = concat-append so_far.front (line ∷ []) ∙ ap (λ l. concat so_far.front ++ l) (append-nil line)

  all_bytes : bytes ≡ concat (so_far.front ++ line ∷ []) ++ others
  all_bytes = so_far.whole ∙ ap (λ l. concat so_far.front ++ l) splits ∙ sym (append_assoc (concat so_far.front) line others) ∙ ap (λ l. l ++ others) (sym pushed)

  ends : length (concat so_far.front) + length line ≡ length bytes - length others
  ends = omega (arith, ap length all_bytes, length-append (concat (so_far.front ++ line ∷ [])) others, ap length pushed, length-append (concat so_far.front) line)

  -- the line stands where it is read
  here : (P : ScriptLine → Type 0) → P (script_line_at line script (length bytes - length others)) → P (line_behind so_far.front script line)
  here P p = subst (λ n. P (script_line_at line script n)) (sym ends) p

  module _ (script' : List Numbered) (different' : List ℕ) (fits : length bytes - length others ≤ 67108864)
      (gives : Give (so_far.front ++ line ∷ []) script') (sessions : AreDifferentOf different' (sessions_of script')) where
    more : IsReadSoFar bytes script' different' others (number + 1)
    more = record {
      front = so_far.front ++ line ∷ [];
      lines = all_lines ∙ sym (append_assoc so_far.front (line ∷ []) (lines_of others));
      whole = all_bytes;
      count_is = omega (arith, so_far.count_is, length-append so_far.front (line ∷ []));
      some = omega (arith, so_far.some, some, ap length pushed, length-append (concat so_far.front) line);
      short = omega (arith, ends, fits, ap length pushed, length-append (concat so_far.front) line);
      gives = gives;
      sessions = sessions;
    }

  -- one more line, which is skipped
  pub more_skipped : IsSkipped (script_line_at line script (length bytes - length others)) → IsReadSoFar bytes script different others (number + 1)
  more_skipped skipped = more script different skipped.script_bytes (skipped_line so_far.front script line so_far.gives (here IsSkipped skipped)) so_far.sessions

  -- one more command
  pub more_command : (numbered : Numbered) (different' : List ℕ) → IsCommand (script_line_at line script (length bytes - length others)) numbered
      → AreDifferentOf different' (sessions_of (script ++ numbered ∷ [])) → IsReadSoFar bytes (script ++ numbered ∷ []) different' others (number + 1)
  more_command numbered different' is sessions =
      more (script ++ numbered ∷ []) different' is.script_bytes (command_line so_far.front script line numbered so_far.gives (here (λ line. IsCommand line numbered) is)) sessions

  -- a line that is bad is the first one
  first_bad : (kind : ℕ) → IsBadLine (script_line_at line script (length bytes - length others)) kind → IsFirstBadLine bytes (number + 1) kind
  first_bad kind bad = record {
    before = so_far.front;
    line = line;
    behind = lines_of others;
    lines = all_lines;
    count_is = ap (λ n. n + 1) so_far.count_is;
    script = script;
    good = so_far.gives;
    bad = here (λ line. IsBadLine line kind) bad;
  }

  pub refuses : (fault : LineFault) → FaultsWith (IsBadLine (script_line_at line script (length bytes - length others))) fault → RefusesScript bytes (fault_at (number + 1) fault)
  refuses (Bad kind) bad = first_bad kind bad
  refuses Memory bad = tt

-- in the end all lines are read
pub end : (bytes : List ℕ) (script : List Numbered) (different rest : List ℕ) (number : ℕ) → IsReadSoFar bytes script different rest number
    → eqb (length rest) 0 ≡ true → IsScript bytes script
end bytes script different [] number so_far none = subst (λ lines. Give lines script) (sym (so_far.lines ∙ append-nil so_far.front)) so_far.gives
end bytes script different (b ∷ rest) number so_far none = let empty : length (b ∷ rest) ≡ 0 = eqb-true (length (b ∷ rest)) 0 none in absurd (omega arith)
