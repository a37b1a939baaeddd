use Rattle.std.proofs.Common.{ap, sym, ◌∙◌, length, eqb, ◌||◌}
use Rattle.std.specs.List.{list_all}
use Rattle.tsdb_script.specs.Reading.{content_of}
use Rattle.tsdb_script.specs.Tokens.{is_blank}
use Rattle.tsdb_script.proofs.LinesLemmas.{blank_is}
use Rattle.tsdb_script.proofs.lines.is_skipped.Goals as goal

pub returns-else-begins_with : goal.returns-else-begins_with
returns-else-begins_with c =
    let content = c.content.result.now in
    c.is_empty.ensures ∙ ap (λ l. eqb (length l) 0) c.behind_blanks.ensures ∙ blank_is content ∙ ap (list_all is_blank) c.content.ensures
    ∙ sym (ap (λ t. t || list_all is_blank (content_of c.args.line.now)) (sym c.begins_with.ensures ∙ c.if-begins_with.false))
