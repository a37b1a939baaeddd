-- The first commands of a script are answered: the invariant of the loop that executes them.
use Rattle.std.proofs.Common.{◌≡◌, ◌⊎◌, inl, inr, ℕ, ◌+◌, ◌<◌, ◌≤◌, suc, eqb, get_or, Bool, true, false, cond, List, []}
use Rattle.std.proofs.Common.{◌∷◌, ◌++◌, map, length, take, drop, append-nil, refl, sym, ap, ◌∙◌, arith}
use Rattle.std.specs.Prelude.{◌-◌, ◌^◌, count_by, min, slice_index, slice_set}
use Rattle.std.specs.List.{filter}
use Rattle.std.proofs.lemmas.Bool.{eqb-true, eq-eqb, false≢true}
use Rattle.std.proofs.lemmas.List.{map-append, drop_all, get_or-set_same, get_or-set_other}
use Rattle.std.proofs.lemmas.List.Sums.{sum_by_push}
use Rattle.std.proofs.Math.Seq.{take-length}
use Rattle.tsdb_base.specs.declared.answers.Answer.TheVariants as answer
use Rattle.tsdb_history.proofs.Entries.{IsComplete-push, answers-push, command_of-last, length-commands_of-push}
use Rattle.tsdb_history.specs.History.{IsHistory, IsInLineOrder, commands_of, told_device, is_device_reply}
use Rattle.tsdb_history.specs.History.{session_numbers}
use Rattle.tsdb_history.specs.declared.told.Told.{Told}
use Rattle.tsdb_model.specs.History.{Entry}
use Rattle.tsdb_model.specs.declared.reply.Reply.{Reply}
use Rattle.tsdb_model.specs.declared.reply.Reply.TheVariants.{Plain, Lines, Values, Files}
use Rattle.tsdb_base.specs.Causes.{Rose}
use Rattle.tsdb_script.specs.declared.numbered.Numbered.{Numbered}

-- the numbers of commands of the sessions
abbrev pub Count : List ℕ → List Numbered → Type 0
Count counts script = (session : ℕ) → session < session_numbers
    → slice_index counts session ≡ length (commands_of script session)

-- the commands are answered in their order, and those of each session are counted
pub record SoFar (script : List Numbered) (history : List Told) (entries : List Entry) (counts : List ℕ) : Type 0 where
  pub history_of : IsHistory script history entries
  pub in_line_order : IsInLineOrder script history
  pub counts_are : Count counts script

pub nothing_so_far : (counts : List ℕ) → ((at : ℕ) → slice_index counts at ≡ 0) → SoFar [] [] [] counts
nothing_so_far counts none = record {
  history_of = record { complete = λ session. (refl, λ k told is. cc); answers = refl };
  in_line_order = refl;
  counts_are = λ session lt. none session;
}

-- a slice that is changed whole is the vector's
pub whole_slice : (n : ℕ) (new old : List ℕ) → n ≡ length new → length old ≡ n → take n (new ++ drop (length new) old) ≡ new
whole_slice n new old here there =
    ap (λ l. take n (new ++ l)) (drop_all (length new) old (omega arith)) ∙ ap (λ l. take n l) (append-nil new)
    ∙ ap (λ m. take m new) here ∙ take-length new

-- a session has no more commands than the script
pub few_of : (script : List Numbered) (session : ℕ) → length (commands_of script session) ≤ length script
few_of [] session = omega arith
few_of (n ∷ script) session =
    elim (eqb n.session session) as (λ b. length (map (λ m. m.command) (cond b (n ∷ filter (λ m. eqb m.session session) script) (filter (λ m. eqb m.session session) script))) ≤ suc (length script)) [
      | true ↦ omega (arith, few_of script session)
      | false ↦ omega (arith, few_of script session)
    ]

Count-push : (counts after : List ℕ) (script : List Numbered) (numbered : Numbered) → length counts ≡ session_numbers
    → numbered.session < session_numbers
    → after ≡ slice_set counts numbered.session (slice_index counts numbered.session + 1) → Count counts script
    → Count after (script ++ numbered ∷ [])
Count-push counts after script numbered long within is counts_are = λ session lt.
    elim (eqb numbered.session session) as (λ b. eqb numbered.session session ≡ b
    → slice_index after session ≡ length (commands_of script session) + cond b 1 0 → slice_index after session ≡ length (commands_of (script ++ numbered ∷ []) session)) [
      | true ↦ λ e h. h ∙ ap (λ b. length (commands_of script session) + cond b 1 0) (sym e) ∙ sym (length-commands_of-push script numbered session)
      | false ↦ λ e h. h ∙ ap (λ b. length (commands_of script session) + cond b 1 0) (sym e) ∙ sym (length-commands_of-push script numbered session)
    ] refl (one session lt (eqb numbered.session session) refl)
  where
    one : (session : ℕ) → session < session_numbers → (b : Bool) → eqb numbered.session session ≡ b
        → slice_index after session ≡ length (commands_of script session) + cond b 1 0
    one session lt true e =
        let same : numbered.session ≡ session = eqb-true numbered.session session e in
        ap (λ l. get_or l session 0) is
        ∙ ap (λ s. get_or (slice_set counts s (slice_index counts s + 1)) session 0) same
        ∙ get_or-set_same counts session (slice_index counts session + 1) 0 (omega arith)
        ∙ ap (λ n. n + 1) (counts_are session lt)
    one session lt false e =
        ap (λ l. get_or l session 0) is
        ∙ get_or-set_other counts numbered.session session (slice_index counts numbered.session + 1) 0
        (λ same. false≢true (sym e ∙ eq-eqb numbered.session session (sym same)))
        ∙ counts_are session lt ∙ omega arith

pushed : {X Y N : Type 0} (f : X → N) (g : Y → N) (xs : List X) (ys : List Y) (x : X) (y : Y)
    → map f xs ≡ map g ys → f x ≡ g y → map f (xs ++ x ∷ []) ≡ map g (ys ++ y ∷ [])
pushed f g xs ys x y same last =
    map-append f xs (x ∷ []) ∙ ap (λ l. l ++ f x ∷ []) same ∙ ap (λ n. map g ys ++ n ∷ []) last
    ∙ sym (map-append g ys (y ∷ []))

-- one more command is answered
pub one_more : (script : List Numbered) (history : List Told) (entries : List Entry) (counts next : List ℕ)
    (numbered : Numbered) (told : Told) → SoFar script history entries counts → length counts ≡ session_numbers
    → numbered.session < session_numbers → told.session ≡ numbered.session
    → told.index ≡ slice_index counts numbered.session
    → next ≡ slice_set counts numbered.session (slice_index counts numbered.session + 1)
    → SoFar (script ++ numbered ∷ []) (history ++ told ∷ [])
    (entries ++ record { command = numbered.command; reply = told.reply } ∷ []) next
one_more script history entries counts next numbered told so_far long within same at is =
    let index = at ∙ so_far.counts_are numbered.session within in
    record {
      history_of = record {
        complete = IsComplete-push script history numbered told same index so_far.history_of.complete;
        answers = answers-push script numbered history told entries so_far.history_of.answers
            (command_of-last script history numbered told same index);
      };
      in_line_order = pushed (λ t. t.session) (λ n. n.session) history script told numbered so_far.in_line_order same;
      counts_are = Count-push counts next script numbered long within is so_far.counts_are;
    }

count_more : (p : Told → Bool) (history : List Told) (told : Told) → count_by p (history ++ told ∷ []) ≡ count_by p history + cond (p told) 1 0
count_more p history told = sum_by_push (λ t. cond (p t) 1 0) history told

is_device_or_not : (reply : Reply) → (reply ≡ Plain answer.Device) ⊎ (is_device_reply reply ≡ false)
is_device_or_not (Plain answer.Device) = inl refl
is_device_or_not (Plain answer.Done) = inr refl
is_device_or_not (Plain answer.NoPath) = inr refl
is_device_or_not (Plain answer.WrongType) = inr refl
is_device_or_not (Plain answer.Exists) = inr refl
is_device_or_not (Plain answer.Memory) = inr refl
is_device_or_not (Plain (answer.Full counter)) = inr refl
is_device_or_not (Lines rows) = inr refl
is_device_or_not (Values values) = inr refl
is_device_or_not (Files listing) = inr refl

one_of : (a a_new b b_new : ℕ) → a ≤ a_new → b ≤ b_new → Rose a a_new ⊎ Rose b b_new → Rose (a + b) (a_new + b_new)
one_of a a_new b b_new first second (inl rose) = omega (arith, first, second, rose)
one_of a a_new b b_new first second (inr rose) = omega (arith, first, second, rose)

-- each reply `device` is a fault of the journal or of the port
pub devices_more : (first a a_new b b_new : ℕ) (history : List Told) (told : Told)
    → min (first + count_by told_device history) (2 ^ 64 - 1) ≤ a + b → a ≤ a_new → b ≤ b_new
    → (told.reply ≡ Plain answer.Device → Rose a a_new ⊎ Rose b b_new)
    → min (first + count_by told_device (history ++ told ∷ [])) (2 ^ 64 - 1) ≤ a_new + b_new
devices_more first a a_new b b_new history told few later port rose =
    elim (is_device_or_not told.reply) [
      | inl is ↦ (let one : told_device told ≡ true = ap is_device_reply is in
          let e = count_more told_device history told ∙ ap (λ b. count_by told_device history + cond b 1 0) one in
          omega (arith, few, one_of a a_new b b_new later port (rose is), e))
      | inr not ↦ (let e = count_more told_device history told ∙ ap (λ b. count_by told_device history + cond b 1 0) not in
          omega (arith, few, later, port, e))
    ]
