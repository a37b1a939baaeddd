use Rattle.std.proofs.Common.{◌∷◌, [], ◌++◌, ◌∙◌, ap, codes}
use Rattle.std.specs.Fmt.{decimal}
use Rattle.tsdb_print.specs.Text.{space_name, span_text}
use Rattle.tsdb_print.proofs.Pieces.{one_more, two_more}
use Rattle.tsdb_print.proofs.listing.append_file.Goals as goal

pub returns : goal.returns
returns c =
    let old = c.args.into.now.items in
    let file = c.args.file.now in
    let name = space_name file.space in
    let number = name ++ codes " " ++ decimal file.number.0 in
    let born = number ++ codes " born " ++ decimal file.born.0 in
    let points = born ++ codes " points " ++ decimal file.points in
    let span = span_text file.from file.to in
    one_more old (points ++ span) (10 ∷ []) _ _ (one_more old points span _ _ (two_more old born _ _ _ _ (two_more old number _ _ _ _ (two_more old name _ _ _ _
    (c.in_ok-extend_from_slice.ensures.items ∙ ap (λ l. old ++ l) c.name_of.ensures)
    c.in_ok-append_after.ensures) c.in_ok-append_after-2.ensures) c.in_ok-append_after-3.ensures) c.in_ok-append_span.ensures)
    c.in_ok-push.ensures.items
