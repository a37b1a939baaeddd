use Rattle.std.proofs.Common.{◌≡◌, ◌⊎◌, inl, inr, ◌<◌, false, List, get_or, subst, arith, refl, rules}
use Rattle.std.proofs.lemmas.Option.{slice_get_read}
use Rattle.tsdb_base.specs.Values.{is_suitable}
use Rattle.tsdb_index.specs.declared.index.PageEntry.{PageEntry}
use Rattle.tsfile_reader.specs.Page.{SaysOfPage}
use Rattle.tsfile_reader.proofs.OfTree.{bad_page, damaged_place, found_points, refused, refused_tree, tree_points, within_said}
use Rattle.tsfile_reader.proofs.reader.read_points.Goals as goal
use Rattle.tsfile_reader.proofs.reader.read_points.Goals.{then-size-said-via-then-size-said, then-size-said-via-else-size-said+then-not-suits}

pub returns-then-size-said-clause-bad : goal.returns-then-size-said-clause-bad
returns-then-size-said-clause-bad g c =
    let o = (g.P.Right.ReadRight.file c.args.right.now).bytes in
    let e = c.args.entry.now in
    let page = c.index-items-page.result in
    let says : SaysOfPage e c.args.page page = slice_get_read e.pages _ c.args.page page refl c.requires.page (subst (λ (l : List PageEntry). c.index-items-page.result ≡ get_or l c.args.page c.index-items-page.result) c.items.ensures c.index-items-page.is) in
    let why : (c.in_ok-size.size < c.index-items-page.result.place) ⊎ (is_suitable c.args.entry.now.data_type c.args.entry.now.encoding ≡ false) =
    elim c.then-size-said.branch [ then-size-said-via-then-size-said w ↦ inl (omega arith) | then-size-said-via-else-size-said+then-not-suits w ↦ inr (search rules) ] in
    refused o e c.args.page page c.in_ok-size.size says c.in_ok-size.ensures.length why

pub returns-then-size-said-clause-tree : goal.returns-then-size-said-clause-tree
returns-then-size-said-clause-tree g c =
    let o = (g.P.Right.ReadRight.file c.args.right.now).bytes in
    let e = c.args.entry.now in
    let page = c.index-items-page.result in
    let says : SaysOfPage e c.args.page page = slice_get_read e.pages _ c.args.page page refl c.requires.page (subst (λ (l : List PageEntry). c.index-items-page.result ≡ get_or l c.args.page c.index-items-page.result) c.items.ensures c.index-items-page.is) in
    let why : (c.in_ok-size.size < c.index-items-page.result.place) ⊎ (is_suitable c.args.entry.now.data_type c.args.entry.now.encoding ≡ false) =
    elim c.then-size-said.branch [ then-size-said-via-then-size-said w ↦ inl (omega arith) | then-size-said-via-else-size-said+then-not-suits w ↦ inr (search rules) ] in
    refused_tree o e c.args.page page c.in_ok-size.size _ says c.in_ok-size.ensures.length why

pub returns-clause-found : goal.returns-clause-found
returns-clause-found g c =
    let e = c.args.entry.now in
    let page = c.index-items-page.result in
    let says : SaysOfPage e c.args.page page = slice_get_read e.pages _ c.args.page page refl c.requires.page (subst (λ (l : List PageEntry). c.index-items-page.result ≡ get_or l c.args.page c.index-items-page.result) c.items.ensures c.index-items-page.is) in
    found_points (g.P.Right.ReadRight.file c.args.right.now).bytes e c.args.page page c.read_points_at.result says c.read_points_at.ensures.answers

pub returns-clause-damaged : goal.returns-clause-damaged
returns-clause-damaged g c =
    let e = c.args.entry.now in
    let page = c.index-items-page.result in
    let says : SaysOfPage e c.args.page page = slice_get_read e.pages _ c.args.page page refl c.requires.page (subst (λ (l : List PageEntry). c.index-items-page.result ≡ get_or l c.args.page c.index-items-page.result) c.items.ensures c.index-items-page.is) in
    damaged_place e c.args.page page c.read_points_at.result says c.read_points_at.ensures.place

pub returns-clause-bad : goal.returns-clause-bad
returns-clause-bad g c =
    let e = c.args.entry.now in
    let page = c.index-items-page.result in
    let says : SaysOfPage e c.args.page page = slice_get_read e.pages _ c.args.page page refl c.requires.page (subst (λ (l : List PageEntry). c.index-items-page.result ≡ get_or l c.args.page c.index-items-page.result) c.items.ensures c.index-items-page.is) in
    bad_page (g.P.Right.ReadRight.file c.args.right.now).bytes e c.args.page page c.read_points_at.result says c.read_points_at.ensures.answers

pub returns-clause-tree : goal.returns-clause-tree
returns-clause-tree g c =
    let e = c.args.entry.now in
    let page = c.index-items-page.result in
    let says : SaysOfPage e c.args.page page = slice_get_read e.pages _ c.args.page page refl c.requires.page (subst (λ (l : List PageEntry). c.index-items-page.result ≡ get_or l c.args.page c.index-items-page.result) c.items.ensures c.index-items-page.is) in
    tree_points (g.P.Right.ReadRight.file c.args.right.now).bytes e c.args.page page c.read_points_at.result says c.read_points_at.ensures.answers

pub returns-clause-within : goal.returns-clause-within
returns-clause-within g c =
    let e = c.args.entry.now in
    let page = c.index-items-page.result in
    let says : SaysOfPage e c.args.page page = slice_get_read e.pages _ c.args.page page refl c.requires.page (subst (λ (l : List PageEntry). c.index-items-page.result ≡ get_or l c.args.page c.index-items-page.result) c.items.ensures c.index-items-page.is) in
    within_said e c.args.page page c.read_points_at.result says c.read_points_at.ensures.within
