-- Replies: those that a command may have print alike exactly where they show the same.
use Rattle.std.proofs.Common.{◌≡◌, ◌≢◌, ℕ, ◌≤◌, Bool, true, false, cond, eqb, List, [], ◌∷◌, ◌++◌, Option, None, Some, is_some, map, length, refl, ap, sym, ◌∙◌, arith, codes, append_assoc, get_or, option_map, inl, inr, ◌||◌}
use Rattle.std.specs.Option.{IsSome}
use Rattle.std.specs.List.{flat_map, AllByRecursion}
use Rattle.std.specs.Fmt.{decimal, signed_decimal}
use Rattle.std.proofs.lemmas.Bool.{false≢true}
use Rattle.std.proofs.lemmas.List.{append_cancel_left, length-map}
use Rattle.std.proofs.lemmas.List.Elements.{recursion_from_All}
use Rattle.tsdb_base.specs.declared.answers.Aggregate.{Aggregate}
use Rattle.tsdb_base.specs.declared.answers.Aggregate.TheVariants.{Count, FirstValue, LastValue, MinValue, MaxValue, MinTime, MaxTime, Sum}
use Rattle.tsdb_base.specs.Notation.{aggregate_name}
use Rattle.tsdb_base.specs.declared.answers.Answer.{Answer}
use Rattle.tsdb_base.specs.declared.answers.Answer.TheVariants.{Done, NoPath, WrongType, Exists, Device, Memory, Full}
use Rattle.tsdb_base.specs.declared.answers.Figure.{Figure}
use Rattle.tsdb_base.specs.declared.answers.Figure.TheVariants as figure
use Rattle.tsdb_base.specs.declared.value.Value.{Value}
use Rattle.tsdb_base.specs.declared.value.Value.TheVariants as value
use Rattle.tsdb_model.specs.declared.command.Command.{Command}
use Rattle.tsdb_model.specs.declared.command.Command.TheVariants.{Create, Insert, Delete, Select, Flush, CompactInner, CompactCross, ShowFiles}
use Rattle.tsdb_model.specs.declared.command.Item.{Item}
use Rattle.tsdb_model.specs.declared.reply.Line.{Line}
use Rattle.tsdb_model.specs.declared.reply.Reply.{Reply}
use Rattle.tsdb_model.specs.declared.reply.Reply.TheVariants.{Plain, Lines, Values, Files}
use Rattle.tsdb_model.specs.Apply.{ask_aggregates, reply_of}
use Rattle.tsdb_model.specs.Commands.{AreItems, IsWellFormed}
use Rattle.tsdb_model.specs.History.{IsAllowed}
use Rattle.tsdb_model.specs.State.{State}
use Rattle.tsdb_model.specs.World.{World}
use Rattle.tsdb_print.specs.Alike.{IsReplyInRange, IsRowInRange, IsFigureInRange, as_printed, shown_answer, shown_figure, shown_figures, shown_value, shown_values, shown_row}
use Rattle.tsdb_print.specs.Text.{answer_text, cell_text, column_text, figure_text, item_text, items_of, join_with_commas, line, reply_text, row_text, rows_text, values_text}
use Rattle.tsdb_print.proofs.Words.{Begins, IsWord, Stops, apart_by_stop}
use Rattle.tsdb_print.proofs.Cells.{rows_lines, same_figures, same_rows}
use Rattle.tsdb_print.proofs.Listings.{listing_begins, listing_shown, same_listing}

answer_word : (answer : Answer) → IsWord (answer_text answer)
answer_word Done = (omega arith, (omega arith, tt))
answer_word NoPath = (omega arith, (omega arith, (omega arith, (omega arith, tt))))
answer_word WrongType = (omega arith, (omega arith, (omega arith, (omega arith, tt))))
answer_word Exists = (omega arith, (omega arith, (omega arith, (omega arith, (omega arith, (omega arith, tt))))))
answer_word Device = (omega arith, (omega arith, (omega arith, (omega arith, (omega arith, (omega arith, tt))))))
answer_word Memory = (omega arith, (omega arith, (omega arith, (omega arith, (omega arith, (omega arith, tt))))))
answer_word (Full counter) = (omega arith, (omega arith, (omega arith, (omega arith, tt))))

-- an answer is known by its first letter
answer_of : ℕ → Answer
answer_of letter =
    cond (eqb letter 111) Done (cond (eqb letter 112) NoPath (cond (eqb letter 116) WrongType (cond (eqb letter 101) Exists (cond (eqb letter 100) Device (cond (eqb letter 109) Memory (Full 0))))))

answer_of-letter : (answer : Answer) → shown_answer answer ≡ answer_of (get_or (answer_text answer) 0 0)
unfolding answer_of
answer_of-letter Done = refl
answer_of-letter NoPath = refl
answer_of-letter WrongType = refl
answer_of-letter Exists = refl
answer_of-letter Device = refl
answer_of-letter Memory = refl
answer_of-letter (Full counter) = refl

letter_of : (a : Answer) → get_or (answer_text a) 0 0 ≡ get_or (line (answer_text a)) 0 0
letter_of Done = refl
letter_of NoPath = refl
letter_of WrongType = refl
letter_of Exists = refl
letter_of Device = refl
letter_of Memory = refl
letter_of (Full counter) = refl

same_answer : (a b : Answer) → line (answer_text a) ≡ line (answer_text b) → shown_answer a ≡ shown_answer b
same_answer a b e =
    let first : get_or (answer_text a) 0 0 ≡ get_or (answer_text b) 0 0 = letter_of a ∙ ap (λ l. get_or l 0 0) e ∙ sym (letter_of b) in
    answer_of-letter a ∙ ap answer_of first ∙ sym (answer_of-letter b)

aggregate_word : (aggregate : Aggregate) → IsWord (aggregate_name aggregate)
aggregate_word Count = (omega arith, (omega arith, (omega arith, (omega arith, (omega arith, tt)))))
aggregate_word FirstValue = (omega arith, (omega arith, (omega arith, (omega arith, (omega arith, (omega arith, (omega arith, (omega arith, (omega arith, (omega arith, (omega arith, tt)))))))))))
aggregate_word LastValue = (omega arith, (omega arith, (omega arith, (omega arith, (omega arith, (omega arith, (omega arith, (omega arith, (omega arith, (omega arith, tt))))))))))
aggregate_word MinValue = (omega arith, (omega arith, (omega arith, (omega arith, (omega arith, (omega arith, (omega arith, (omega arith, (omega arith, tt)))))))))
aggregate_word MaxValue = (omega arith, (omega arith, (omega arith, (omega arith, (omega arith, (omega arith, (omega arith, (omega arith, (omega arith, tt)))))))))
aggregate_word MinTime = (omega arith, (omega arith, (omega arith, (omega arith, (omega arith, (omega arith, (omega arith, (omega arith, tt))))))))
aggregate_word Sum = (omega arith, (omega arith, (omega arith, tt)))
aggregate_word MaxTime = (omega arith, (omega arith, (omega arith, (omega arith, (omega arith, (omega arith, (omega arith, (omega arith, tt))))))))

-- rows are the reply to a select alone, which has items
items_of_rows : (world : World) (command : Command) (rows : List Line) → IsWellFormed command → Lines rows ≡ reply_of world command → 1 ≤ length (items_of command)
items_of_rows world (Create schema) rows well e = absurd cc
items_of_rows world (Insert device row) rows well e = absurd cc
items_of_rows world (Delete series range) rows well e = absurd cc
items_of_rows world (Select device items range) rows well e = well.1.some
items_of_rows world Flush rows well e = absurd cc
items_of_rows world (CompactInner space) rows well e = absurd cc
items_of_rows world CompactCross rows well e = absurd cc
items_of_rows world ShowFiles rows well e = absurd cc

asked : (there ask unfit : Bool) (a b : Answer) (rows : List Line) (values found : List (Option Figure))
    → Values values ≡ cond there (cond ask (cond unfit (Plain a) (Values found)) (Lines rows)) (Plain b) → ask ≡ true
asked there true unfit a b rows values found e = refl
asked true false unfit a b rows values found e = absurd cc
asked false false unfit a b rows values found e = absurd cc

-- aggregates are the reply to a select alone that asks for some
items_of_values : (world : World) (command : Command) (values : List (Option Figure)) → Values values ≡ reply_of world command → IsWellFormed command
    → AreItems (items_of command) × (ask_aggregates (items_of command) ≡ true)
items_of_values world (Create schema) values e well = absurd cc
items_of_values world (Insert device row) values e well = absurd cc
items_of_values world (Delete series range) values e well = absurd cc
items_of_values world (Select device items range) values e well = (well.1, asked _ (ask_aggregates items) _ _ _ _ values _ e)
items_of_values world Flush values e well = absurd cc
items_of_values world (CompactInner space) values e well = absurd cc
items_of_values world CompactCross values e well = absurd cc
items_of_values world ShowFiles values e well = absurd cc

-- where no item asks for an aggregate, none is asked for
none_asked : (items : List Item) → AllByRecursion (λ item. item.aggregate ≡ None) items → ask_aggregates items ≡ false
none_asked [] none = refl
none_asked (item ∷ items) none = ap (λ a. is_some a || ask_aggregates items) none.0 ∙ none_asked items none.1

item_begins : (item : Item) (x : List ℕ) (aggregate : Aggregate) → item.aggregate ≡ Some aggregate → Begins 40 (item_text item ++ x)
item_begins item x aggregate is = record {
  word = aggregate_name aggregate;
  rest = item.measurement ++ 41 ∷ x;
  letters = aggregate_word aggregate;
  is = ap (λ a. column_text a item.measurement ++ x) is ∙ append_assoc (aggregate_name aggregate ++ 40 ∷ item.measurement) (41 ∷ []) x
      ∙ append_assoc (aggregate_name aggregate) (40 ∷ item.measurement) (41 ∷ x);
}

first_aggregate : (a : Option Aggregate) → IsSome a → (aggregate : Aggregate) × (a ≡ Some aggregate)
first_aggregate None some = absurd (false≢true some)
first_aggregate (Some aggregate) some = (aggregate, refl)

values_begin : (items : List Item) (values : List (Option Figure)) → AreItems items → ask_aggregates items ≡ true → Begins 40 (values_text items values)
values_begin [] values are ask = absurd (false≢true ask)
values_begin (item ∷ items) values are ask =
    elim are.alike [
      | inl none ↦ absurd (false≢true (sym (none_asked (item ∷ items) (recursion_from_All _ (item ∷ items) none)) ∙ ask))
      | inr all ↦
          let found = first_aggregate item.aggregate (recursion_from_All (λ i. IsSome i.aggregate) (item ∷ items) all).0 in
          let others = flat_map (λ other. 44 ∷ other) (map item_text items) in
          let begins = item_begins item (others ++ (10 ∷ line (join_with_commas (map figure_text values)))) found.0 found.1 in
          record {
            word = begins.word;
            rest = begins.rest;
            letters = begins.letters;
            is = append_assoc (item_text item ++ others) (10 ∷ []) (line (join_with_commas (map figure_text values)))
                ∙ append_assoc (item_text item) others (10 ∷ line (join_with_commas (map figure_text values))) ∙ begins.is;
          }
    ]

rows_begin : (items : List Item) (rows : List Line) → 1 ≤ length items → Begins 44 (rows_text items rows)
rows_begin [] rows some = absurd (omega arith)
rows_begin (item ∷ items) rows some = record {
  word = codes "time";
  rest = _;
  letters = (omega arith, (omega arith, (omega arith, (omega arith, tt))));
  is = refl;
}

-- the byte behind the first word of a reply
stop_of : Reply → ℕ
stop_of (Plain answer) = 10
stop_of (Lines rows) = 44
stop_of (Values values) = 40
stop_of (Files listing) = 32

reply_begins : (state : State) (command : Command) (reply : Reply) → IsWellFormed command → IsAllowed state command reply → Begins (stop_of reply) (reply_text command reply)
unfolding stop_of
reply_begins state command (Plain answer) well allowed = record { word = answer_text answer; rest = []; letters = answer_word answer; is = refl }
reply_begins state command (Lines rows) well allowed = rows_begin (items_of command) rows (items_of_rows state.world command rows well allowed.same)
reply_begins state command (Values values) well allowed =
    let found = items_of_values state.world command values allowed.same well in
    values_begin (items_of command) values found.0 found.1
reply_begins state command (Files listing) well allowed = listing_begins listing

stop : (reply : Reply) → Stops (stop_of reply ∷ [])
unfolding stop_of
stop (Plain answer) = (omega arith, λ h. omega (arith, h))
stop (Lines rows) = (omega arith, λ h. omega (arith, h))
stop (Values values) = (omega arith, λ h. omega (arith, h))
stop (Files listing) = (omega arith, λ h. omega (arith, h))

-- replies of different kinds
different : (state other : State) (command : Command) (a b : Reply) → IsWellFormed command → IsAllowed state command a → IsAllowed other command b
    → stop_of a ≢ stop_of b → reply_text command a ≡ reply_text command b → ⊥
different state other command a b well allowed also kinds e =
    apart_by_stop (stop_of a) (stop_of b) (reply_text command a) (reply_text command b)
    (reply_begins state command a well allowed) (reply_begins other command b well also) (stop a) (stop b) kinds e

behind_rows : List Line → List ℕ
behind_rows rows = codes "ows " ++ decimal (length rows) ++ 10 ∷ []

rows_apart : (items : List Item) (a b : List Line) → AllByRecursion IsRowInRange a → AllByRecursion IsRowInRange b → rows_text items a ≡ rows_text items b → map shown_row a ≡ map shown_row b
unfolding behind_rows
rows_apart items a b ra rb e =
    let heading = line (join_with_commas (codes "time" ∷ map item_text items)) in
    let whole = sym (append_assoc heading (rows_lines a) (114 ∷ behind_rows a)) ∙ e ∙ append_assoc heading (rows_lines b) (114 ∷ behind_rows b) in
    same_rows a b (behind_rows a) (behind_rows b) ra rb (append_cancel_left heading (rows_lines a ++ 114 ∷ behind_rows a) (rows_lines b ++ 114 ∷ behind_rows b) whole)

values_apart : (items : List Item) (a b : List (Option Figure)) → AllByRecursion IsFigureInRange a → AllByRecursion IsFigureInRange b → values_text items a ≡ values_text items b → shown_figures a ≡ shown_figures b
values_apart items a b ra rb e = same_figures a b ra rb (append_cancel_left (line (join_with_commas (map item_text items))) (line (join_with_commas (map figure_text a))) (line (join_with_commas (map figure_text b))) e)

pub apart : (command : Command) (a b : Reply) (state other : State) → IsWellFormed command → IsAllowed state command a → IsAllowed other command b → IsReplyInRange a → IsReplyInRange b
    → reply_text command a ≡ reply_text command b → as_printed a ≡ as_printed b
unfolding stop_of
apart command (Plain a) (Plain b) state other well allowed also ra rb e = ap Plain (same_answer a b e)
apart command (Lines a) (Lines b) state other well allowed also ra rb e = ap Lines (rows_apart (items_of command) a b ra rb e)
apart command (Values a) (Values b) state other well allowed also ra rb e = ap Values (values_apart (items_of command) a b ra rb e)
apart command (Files a) (Files b) state other well allowed also ra rb e = ap Files (same_listing a b ra rb e)
apart command a b state other well allowed also ra rb e = absurd (different state other command a b well allowed also (λ h. omega (arith, h)) e)

shown_cell-text : (v : Option Value) → cell_text (option_map shown_value v) ≡ cell_text v
shown_cell-text None = refl
shown_cell-text (Some (value.Bool b)) = refl
shown_cell-text (Some (value.I32 number)) = refl
shown_cell-text (Some (value.I64 number)) = refl
shown_cell-text (Some (value.Text bytes)) = refl

cells_shown : (values : List (Option Value)) → map cell_text (shown_values values) ≡ map cell_text values
cells_shown [] = refl
cells_shown (v ∷ values) = let head = shown_cell-text v in let tail = cells_shown values in cc

shown_figure-text : (f : Option Figure) → figure_text (option_map shown_figure f) ≡ figure_text f
shown_figure-text None = refl
shown_figure-text (Some (figure.Value v)) = shown_cell-text (Some v)
shown_figure-text (Some (figure.Sum sum)) = refl

figures_shown : (figures : List (Option Figure)) → map figure_text (shown_figures figures) ≡ map figure_text figures
figures_shown [] = refl
figures_shown (f ∷ figures) = let head = shown_figure-text f in let tail = figures_shown figures in cc

rows_shown : (rows : List Line) → rows_lines (map shown_row rows) ≡ rows_lines rows
rows_shown [] = refl
rows_shown (row ∷ rows) =
    ap (λ cells. line (join_with_commas (signed_decimal row.time ∷ cells)) ++ rows_lines (map shown_row rows)) (cells_shown row.values)
    ∙ ap (λ l. line (row_text row) ++ l) (rows_shown rows)

rows_text_shown : (items : List Item) (rows : List Line) → rows_text items (map shown_row rows) ≡ rows_text items rows
rows_text_shown items rows =
    ap (λ l. line (join_with_commas (codes "time" ∷ map item_text items)) ++ l ++ line (codes "rows " ++ decimal (length (map shown_row rows)))) (rows_shown rows)
    ∙ ap (λ n. line (join_with_commas (codes "time" ∷ map item_text items)) ++ rows_lines rows ++ line (codes "rows " ++ decimal n)) (length-map rows shown_row)

answer_shown : (answer : Answer) → answer_text (shown_answer answer) ≡ answer_text answer
answer_shown Done = refl
answer_shown NoPath = refl
answer_shown WrongType = refl
answer_shown Exists = refl
answer_shown Device = refl
answer_shown Memory = refl
answer_shown (Full counter) = refl

text_shown : (command : Command) (a : Reply) → reply_text command (as_printed a) ≡ reply_text command a
text_shown command (Plain answer) = ap line (answer_shown answer)
text_shown command (Lines rows) = rows_text_shown (items_of command) rows
text_shown command (Values values) = ap (λ cells. line (join_with_commas (map item_text (items_of command))) ++ line (join_with_commas cells)) (figures_shown values)
text_shown command (Files listing) = listing_shown listing

pub alike : (command : Command) (a b : Reply) → as_printed a ≡ as_printed b → reply_text command a ≡ reply_text command b
alike command a b e = sym (text_shown command a) ∙ ap (reply_text command) e ∙ text_shown command b
