-- A line is read pass by pass.
use Rattle.std.proofs.Common.{◌≡◌, ℕ, ◌<◌, ◌≤◌, false, true≢false, List, [], ◌∷◌, ◌++◌, length, refl, sym, ap, ◌∙◌, arith, subst, inl, inr}
use Rattle.std.specs.Prelude.{◌⊎◌}
use Rattle.std.specs.Str.Parse.{digits_value}
use Rattle.std.proofs.lemmas.Bool.{cases_lt, cases_Bool}
use Rattle.tsdb_script.specs.Types.{Numbered, Syntax, Token}
use Rattle.tsdb_script.specs.declared.token.Token.TheVariants.{Word}
use Rattle.tsdb_script.specs.Forms.{Fits, HasNoForm}
use Rattle.tsdb_script.specs.LineSteps.{HasNoSession, HasSessionRoom, HasSession}
use Rattle.tsdb_script.specs.Meaning.{Means, Objects}
use Rattle.tsdb_script.specs.Reading.{ScriptLine, content_of, is_skipped, session_count, passes, BeginsStatement, FirstObjects, IsBadLine, IsCommand, IsOfSession, IsSkipped, ObjectsIn}
use Rattle.tsdb_script.specs.Reading.{ReadingPass, Limits, Tokens, Session, Room, FirstWord, Form, Meaning}
use Rattle.tsdb_script.specs.Tokens.{AreTokens, HasNoTokens}
use Rattle.tsdb_script.proofs.TokenLemmas.{same_kind, same_tokens, not_both}
use Rattle.tsdb_script.proofs.MeaningLaws.{made_same, one_command, one_objection, no_objection}
use Rattle.tsdb_script.proofs.StatementLemmas.{form_begins, same_statement}

-- a line that says something, and is short enough
pub record IsWithin (line : ScriptLine) : Type 0 where
  pub says : is_skipped line.bytes ≡ false
  pub line_bytes : length line.bytes ≤ 1048576
  pub script_bytes : line.end ≤ 67108864

pub within : (line : ScriptLine) → is_skipped line.bytes ≡ false → length line.bytes ≤ 1048576 → line.end ≤ 67108864 → IsWithin line
within line says line_bytes script_bytes = record { says = says; line_bytes = line_bytes; script_bytes = script_bytes }

-- a pass does not object
abbrev pub Passes : ReadingPass → ScriptLine → Type 0
Passes pass line = (kind : ℕ) → ¬ ObjectsIn pass line kind

heads : (a b : List ℕ) (xs ys : List Token) → ◌≡◌ {A = List Token} (Word a ∷ xs) (Word b ∷ ys) → (a ≡ b) × (xs ≡ ys)
heads a b xs ys e = (cc, cc)

-- a line is of one session, and has one statement
pub one_session : (line : ScriptLine) (session other : ℕ) (statement others : List Token) → IsOfSession line session statement → IsOfSession line other others
    → (session ≡ other) × (statement ≡ others)
one_session line session other statement others h k =
    let same = heads h.word k.word statement others (same_tokens (content_of line.bytes) (Word h.word ∷ statement) (Word k.word ∷ others) h.tokens k.tokens) in
    (h.number.value ∙ ap (digits_value 10) same.0 ∙ sym k.number.value, same.1)

-- ---- passes that do not object

within_limits : (line : ScriptLine) → IsWithin line → Passes Limits line
within_limits line is kind objects = elim objects.0 [ inl long ↦ omega (arith, is.line_bytes) | inr long ↦ omega (arith, is.script_bytes) ]

has_tokens : (line : ScriptLine) (tokens : List Token) → AreTokens (content_of line.bytes) tokens → Passes Tokens line
has_tokens line tokens are kind objects = not_both (content_of line.bytes) tokens kind are objects

module _ (line : ScriptLine) (session : ℕ) (statement : List Token) (is : IsOfSession line session statement) where
  has_session : Passes Session line
  has_session kind objects = objects.0 session statement is

  has_room : HasSessionRoom line.sessions session → Passes Room line
  has_room room kind objects =
      let same = one_session line session objects.0 statement objects.1 is objects.2 in
      elim objects.3.0 [
        | inl many ↦ omega (arith, room.0)
        | inr many ↦ omega (arith, room.1, ap (λ s. session_count (line.sessions ++ s ∷ [])) same.0)
      ]

  begins : BeginsStatement statement → Passes FirstWord line
  begins begin kind objects = objects.3.0 (subst BeginsStatement (one_session line session objects.0 statement objects.1 is objects.2).1 begin)

  fits : (syntax : Syntax) → Fits statement syntax → Passes Form line
  fits syntax fit kind objects = objects.3.0 syntax (subst (λ s. Fits s syntax) (one_session line session objects.0 statement objects.1 is objects.2).1 fit)

-- ---- the first pass that objects

module _ (line : ScriptLine) (is : IsWithin line) where
  bad : (kind : ℕ) → FirstObjects (Tokens ∷ Session ∷ Room ∷ FirstWord ∷ Form ∷ Meaning ∷ []) line kind → IsBadLine line kind
  bad kind objects = inr (is.says, inr (within_limits line is, objects))

  pub bad_tokens : (kind : ℕ) → HasNoTokens (content_of line.bytes) kind → IsBadLine line kind
  bad_tokens kind none = bad kind (inl none)

  module _ (tokens : List Token) (are : AreTokens (content_of line.bytes) tokens) where
    pub bad_session : (kind : ℕ) → HasNoSession tokens kind → IsBadLine line kind
    bad_session kind none = bad kind (inr (has_tokens line tokens are, inl ((λ session statement it. none.none statement session (again session statement it)), none.decides)))
      where
        again : (session : ℕ) (statement : List Token) → IsOfSession line session statement → HasSession tokens statement session
        again session statement it = record { word = it.word; whole = same_tokens (content_of line.bytes) tokens (Word it.word ∷ statement) are it.tokens; number = it.number }

    module _ (session : ℕ) (statement : List Token) (has : HasSession tokens statement session) where
      pub of_session : IsOfSession line session statement
      of_session = record { word = has.word; tokens = subst (AreTokens (content_of line.bytes)) has.whole are; number = has.number }

      bad_behind : (kind : ℕ) → FirstObjects (Room ∷ FirstWord ∷ Form ∷ Meaning ∷ []) line kind → IsBadLine line kind
      bad_behind kind objects = bad kind (inr (has_tokens line tokens are, inr (has_session line session statement of_session, objects)))

      pub bad_room : ¬ HasSessionRoom line.sessions session → IsBadLine line 9
      bad_room full = bad_behind 9 (inl (session, statement, of_session, (passed, refl)))
        where
          passed : (1000000 ≤ length line.sessions) ⊎ (8 < session_count (line.sessions ++ session ∷ []))
          passed = elim (cases_lt (length line.sessions) 1000000) [
            | inr many ↦ inl many
            | inl few ↦ elim (cases_lt 8 (session_count (line.sessions ++ session ∷ []))) [ inl many ↦ inr many | inr le ↦ absurd (full (few, le)) ]
          ]

      module _ (room : HasSessionRoom line.sessions session) where
        bad_statement : (kind : ℕ) → FirstObjects (FirstWord ∷ Form ∷ Meaning ∷ []) line kind → IsBadLine line kind
        bad_statement kind objects = bad_behind kind (inr (has_room line session statement of_session room, objects))

        pub bad_first_word : ¬ BeginsStatement statement → IsBadLine line 2
        bad_first_word none = bad_statement 2 (inl (session, statement, of_session, (none, refl)))

        module _ (begin : BeginsStatement statement) where
          pub bad_form : (kind : ℕ) → HasNoForm statement kind → IsBadLine line kind
          bad_form kind none = bad_statement kind (inr (begins line session statement of_session begin, inl (session, statement, of_session, none)))

          module _ (syntax : Syntax) (fit : Fits statement syntax) where
            pub bad_meaning : (kind : ℕ) → Objects syntax kind → IsBadLine line kind
            bad_meaning kind objects =
                bad_statement kind (inr (
                  begins line session statement of_session begin,
                  inr (
                    fits line session statement of_session syntax fit,
                    inl (session, statement, of_session, (syntax, fit, objects)),
                  ),
                ))

            pub is_command : (numbered : Numbered) → numbered.session ≡ session → Means syntax numbered.command → IsCommand line numbered
            is_command numbered same means = record {
              says_something = is.says;
              line_bytes = is.line_bytes;
              script_bytes = is.script_bytes;
              statement = statement;
              tokens = subst (λ s. IsOfSession line s statement) (sym same) of_session;
              commands = room.0;
              sessions = subst (λ s. session_count (line.sessions ++ s ∷ []) ≤ 8) (sym same) room.1;
              syntax = syntax;
              fits = fit;
              means = means;
            }

-- ---- a line is one command, or has a fault of one kind, and not both

pub one_line_command : (line : ScriptLine) (one other : Numbered) → IsCommand line one → IsCommand line other → one ≡ other
one_line_command line one other is again =
    let same = one_session line one.session other.session is.statement again.statement is.tokens again.tokens in
    let syntax = same_statement again.statement is.syntax again.syntax (subst (λ s. Fits s is.syntax) same.1 is.fits) again.fits in
    made_same {C = Numbered} (λ session command. record { session = session; command = command }) _ _ _ _ same.0
    (one_command again.syntax one.command other.command (subst (λ s. Means s one.command) syntax is.means) again.means)

one_kind : (pass : ReadingPass) (line : ScriptLine) (kind other : ℕ) → ObjectsIn pass line kind → ObjectsIn pass line other → kind ≡ other
one_kind Limits line kind other h k = h.1 ∙ sym k.1
one_kind Tokens line kind other h k = same_kind (content_of line.bytes) kind other h k
one_kind Session line kind other h k = h.1 ∙ sym k.1
one_kind Room line kind other h k = h.3.1 ∙ sym k.3.1
one_kind FirstWord line kind other h k = h.3.1 ∙ sym k.3.1
one_kind Form line kind other h k = h.3.1 ∙ sym k.3.1
one_kind Meaning line kind other h k =
    let same = one_session line h.0 k.0 h.1 k.1 h.2 k.2 in
    let syntax = same_statement k.1 h.3.0 k.3.0 (subst (λ s. Fits s h.3.0) same.1 h.3.1) k.3.1 in
    one_objection k.3.0 kind other (subst (λ s. Objects s kind) syntax h.3.2) k.3.2

first_kind : (order : List ReadingPass) (line : ScriptLine) (kind other : ℕ) → FirstObjects order line kind → FirstObjects order line other → kind ≡ other
first_kind [] line kind other h k = absurd h
first_kind (pass ∷ later) line kind other (inl h) (inl k) = one_kind pass line kind other h k
first_kind (pass ∷ later) line kind other (inl h) (inr k) = absurd (k.0 kind h)
first_kind (pass ∷ later) line kind other (inr h) (inl k) = absurd (h.0 other k)
first_kind (pass ∷ later) line kind other (inr h) (inr k) = first_kind later line kind other h.1 k.1

pub one_line_fault : (line : ScriptLine) (kind other : ℕ) → IsBadLine line kind → IsBadLine line other → kind ≡ other
one_line_fault line kind other (inl h) (inl k) = h.2 ∙ sym k.2
one_line_fault line kind other (inl h) (inr k) = absurd (true≢false (sym h.0 ∙ k.0))
one_line_fault line kind other (inr h) (inl k) = absurd (true≢false (sym k.0 ∙ h.0))
one_line_fault line kind other (inr h) (inr k) = first_kind passes line kind other h.1 k.1

-- a form begins with one of the words that begin a statement
fits_begins : (statement : List Token) (syntax : Syntax) → Fits statement syntax → BeginsStatement statement
fits_begins statement syntax fit = let b = form_begins statement syntax fit in subst BeginsStatement (sym b.2) b.3

-- no pass objects to a command
command_passes : (line : ScriptLine) (numbered : Numbered) → IsCommand line numbered → (pass : ReadingPass) → Passes pass line
command_passes line numbered is Limits kind h = within_limits line (within line is.says_something is.line_bytes is.script_bytes) kind h
command_passes line numbered is Tokens kind h = has_tokens line (Word is.tokens.word ∷ is.statement) is.tokens.tokens kind h
command_passes line numbered is Session kind h = has_session line numbered.session is.statement is.tokens kind h
command_passes line numbered is Room kind h = has_room line numbered.session is.statement is.tokens (is.commands, is.sessions) kind h
command_passes line numbered is FirstWord kind h = begins line numbered.session is.statement is.tokens (fits_begins is.statement is.syntax is.fits) kind h
command_passes line numbered is Form kind h = fits line numbered.session is.statement is.tokens is.syntax is.fits kind h
command_passes line numbered is Meaning kind h =
    let same = one_session line numbered.session h.0 is.statement h.1 is.tokens h.2 in
    let syntax = same_statement h.1 is.syntax h.3.0 (subst (λ s. Fits s is.syntax) same.1 is.fits) h.3.1 in
    no_objection h.3.0 numbered.command kind (subst (λ s. Means s numbered.command) syntax is.means) h.3.2

none_first : (order : List ReadingPass) (line : ScriptLine) (kind : ℕ) → ((pass : ReadingPass) → Passes pass line) → ¬ FirstObjects order line kind
none_first [] line kind none h = h
none_first (pass ∷ later) line kind none (inl h) = none pass kind h
none_first (pass ∷ later) line kind none (inr h) = none_first later line kind none h.1

pub command_not_bad : (line : ScriptLine) (numbered : Numbered) (kind : ℕ) → IsCommand line numbered → ¬ IsBadLine line kind
command_not_bad line numbered kind is (inl h) = true≢false (sym h.0 ∙ is.says_something)
command_not_bad line numbered kind is (inr h) = none_first passes line kind (command_passes line numbered is) h.1

pub skipped_not_bad : (line : ScriptLine) (kind : ℕ) → IsSkipped line → ¬ IsBadLine line kind
skipped_not_bad line kind is (inl h) = omega (arith, is.script_bytes, h.1)
skipped_not_bad line kind is (inr h) = true≢false (sym is.says_nothing ∙ h.0)

-- a line in which the script's limit is passed has a fault of kind 9
pub past_limit : (line : ScriptLine) → 67108864 < line.end → IsBadLine line 9
past_limit line long = elim (cases_Bool (is_skipped line.bytes)) [
  | inl skipped ↦ inl (skipped, long, refl)
  | inr says ↦ inr (says, inl (inr long, refl))
]
