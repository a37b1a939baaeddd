use Rattle.std.proofs.Common.{◌≡◌, ◌<◌, ◌^◌, ℕ, List, Vec, Global, length, subst}
use Rattle.std.specs.Prelude.{IfSome, Some}
use Rattle.std.proofs.lemmas.Result.{err_from_is_err_and}
use Rattle.tsdb_index.specs.declared.index.IndexEntry.{IndexEntry}
use Rattle.tsdb_pages.specs.declared.tree.Tree.{Tree}
use Rattle.tsfile_reader.specs.declared.ends.Outline.{Outline}
use Rattle.tsfile_reader.specs.declared.fault.ReadFault.TheVariants.{Damaged}
use Rattle.tsfile_reader.specs.Blame.{HasGroups}
use Rattle.tsfile_reader.specs.Steps.{IsFirstWrong, IsOutlineIn}
use Rattle.tsfile_reader.proofs.Checking.{is_found, is_limited, is_wrong, limited, moved, no_file, no_tree, none_wrong, refused, same_limit, stopped}
use Rattle.tsfile_reader.proofs.OneOutline.{meta_found}
use Rattle.tsfile_reader.proofs.reader.check_file.Goals as goal

abbrev Is : List ℕ → Outline → Type 0
Is bytes outline = IsOutlineIn bytes outline.ends outline.place outline.pointers.items outline.index

abbrev IsSaid : ℕ → List ℕ → Vec IndexEntry Global → Type 0
IsSaid version bytes said = (tree : Tree) × HasGroups version bytes tree said.items

pub returns-in_err-outline-clause-answers : goal.returns-in_err-outline-clause-answers
returns-in_err-outline-clause-answers g c =
    let p = err_from_is_err_and c.from_residual.result c.from_residual.ensures.1 in
    let o = (g.P.Right.ReadRight.file c.args.right.now).bytes in
    let e = c.in_err-outline in
    let lacks = refused o Is e.field-0.0 e.ensures.answers in
    rw (p.1, p.2) lacks

pub returns-in_err-outline-clause-bad : goal.returns-in_err-outline-clause-bad
returns-in_err-outline-clause-bad g c =
    let p = err_from_is_err_and c.from_residual.result c.from_residual.ensures.1 in
    let o = (g.P.Right.ReadRight.file c.args.right.now).bytes in
    let e = c.in_err-outline in
    let lacks = no_file o e.field-0.0 (refused o Is e.field-0.0 e.ensures.answers) (same_limit Outline (λ at. IfSome o (λ b. length b < 2 ^ 63)) e.field-0.0 e.ensures.limit) in
    rw (p.1, p.2) lacks

pub returns-in_err-outline-clause-tree : goal.returns-in_err-outline-clause-tree
returns-in_err-outline-clause-tree g c =
    let p = err_from_is_err_and c.from_residual.result c.from_residual.ensures.1 in
    let o = (g.P.Right.ReadRight.file c.args.right.now).bytes in
    let e = c.in_err-outline in
    let lacks = no_tree o e.field-0.0 (no_file o e.field-0.0 (refused o Is e.field-0.0 e.ensures.answers) (same_limit Outline (λ at. IfSome o (λ b. length b < 2 ^ 63)) e.field-0.0 e.ensures.limit)) in
    rw (p.1, p.2) lacks

pub returns-in_err-said-clause-answers : goal.returns-in_err-said-clause-answers
returns-in_err-said-clause-answers g c =
    let p = err_from_is_err_and c.from_residual-in_err-said.result c.from_residual-in_err-said.ensures.1 in
    let o = (g.P.Right.ReadRight.file c.args.right.now).bytes in
    let r = c.in_ok-outline.outline in
    let has = c.in_ok-outline.ensures.answers in
    let stretch = c.deref.result.now in
    let e = c.in_err-said in
    let lacks = stopped o (IsSaid r.ends.version stretch) r.ends r.place r.pointers.items r.index stretch e.field-0.0 has (moved o r.place stretch c.in_ok-data.data.items c.deref.ensures.value c.in_ok-data.ensures.bytes) e.ensures in
    rw (p.1, p.2) lacks

pub returns-in_err-said-clause-bad : goal.returns-in_err-said-clause-bad
returns-in_err-said-clause-bad g c =
    let p = err_from_is_err_and c.from_residual-in_err-said.result c.from_residual-in_err-said.ensures.1 in
    let o = (g.P.Right.ReadRight.file c.args.right.now).bytes in
    let r = c.in_ok-outline.outline in
    let has = c.in_ok-outline.ensures.answers in
    let stretch = c.deref.result.now in
    let e = c.in_err-said in
    let blamed = stopped o (IsSaid r.ends.version stretch) r.ends r.place r.pointers.items r.index stretch e.field-0.0 has (moved o r.place stretch c.in_ok-data.data.items c.deref.ensures.value c.in_ok-data.ensures.bytes) e.ensures in
    let lacks = no_file o e.field-0.0 blamed (limited o e.field-0.0 (is_limited o r.ends r.place r.pointers.items r.index has)) in
    rw (p.1, p.2) lacks

pub returns-in_err-said-clause-tree : goal.returns-in_err-said-clause-tree
returns-in_err-said-clause-tree g c =
    let p = err_from_is_err_and c.from_residual-in_err-said.result c.from_residual-in_err-said.ensures.1 in
    let o = (g.P.Right.ReadRight.file c.args.right.now).bytes in
    let r = c.in_ok-outline.outline in
    let has = c.in_ok-outline.ensures.answers in
    let stretch = c.deref.result.now in
    let e = c.in_err-said in
    let blamed = stopped o (IsSaid r.ends.version stretch) r.ends r.place r.pointers.items r.index stretch e.field-0.0 has (moved o r.place stretch c.in_ok-data.data.items c.deref.ensures.value c.in_ok-data.ensures.bytes) e.ensures in
    let lacks = no_tree o e.field-0.0 (no_file o e.field-0.0 blamed (limited o e.field-0.0 (is_limited o r.ends r.place r.pointers.items r.index has))) in
    rw (p.1, p.2) lacks

pub returns-in-Some-clause-answers : goal.returns-in-Some-clause-answers
returns-in-Some-clause-answers g c =
    let o = (g.P.Right.ReadRight.file c.args.right.now).bytes in
    let r = c.in_ok-outline.outline in
    let said = c.in_ok-said.said.items in
    let stretch = c.deref.result.now in
    is_wrong o r.ends r.place r.pointers.items r.index stretch said c.in-Some.leaf c.leaf_place-at.result c.in_ok-outline.ensures.answers (moved o r.place stretch c.in_ok-data.data.items c.deref.ensures.value c.in_ok-data.ensures.bytes) c.in_ok-said.ensures
    (subst (λ (l : List IndexEntry). IsFirstWrong c.in_ok-outline.outline.index.entries l (Some c.in-Some.leaf)) c.deref-2.ensures.value (subst (λ (l : List IndexEntry). IsFirstWrong l c.deref-2.result.now (Some c.in-Some.leaf)) c.items.ensures c.in-Some.ensures)) c.leaf_place-at.ensures

pub returns-in-Some-clause-bad : goal.returns-in-Some-clause-bad
returns-in-Some-clause-bad g c =
    let o = (g.P.Right.ReadRight.file c.args.right.now).bytes in
    let r = c.in_ok-outline.outline in
    let said = c.in_ok-said.said.items in
    let has = c.in_ok-outline.ensures.answers in
    let stretch = c.deref.result.now in
    let blamed = is_wrong o r.ends r.place r.pointers.items r.index stretch said c.in-Some.leaf c.leaf_place-at.result c.in_ok-outline.ensures.answers (moved o r.place stretch c.in_ok-data.data.items c.deref.ensures.value c.in_ok-data.ensures.bytes) c.in_ok-said.ensures
    (subst (λ (l : List IndexEntry). IsFirstWrong c.in_ok-outline.outline.index.entries l (Some c.in-Some.leaf)) c.deref-2.ensures.value (subst (λ (l : List IndexEntry). IsFirstWrong l c.deref-2.result.now (Some c.in-Some.leaf)) c.items.ensures c.in-Some.ensures)) c.leaf_place-at.ensures in
    let fault = Damaged c.leaf_place-at.result in
    no_file o fault blamed (limited o fault (is_limited o r.ends r.place r.pointers.items r.index has))

pub returns-in-Some-clause-tree : goal.returns-in-Some-clause-tree
returns-in-Some-clause-tree g c =
    let o = (g.P.Right.ReadRight.file c.args.right.now).bytes in
    let r = c.in_ok-outline.outline in
    let said = c.in_ok-said.said.items in
    let has = c.in_ok-outline.ensures.answers in
    let stretch = c.deref.result.now in
    let blamed = is_wrong o r.ends r.place r.pointers.items r.index stretch said c.in-Some.leaf c.leaf_place-at.result c.in_ok-outline.ensures.answers (moved o r.place stretch c.in_ok-data.data.items c.deref.ensures.value c.in_ok-data.ensures.bytes) c.in_ok-said.ensures
    (subst (λ (l : List IndexEntry). IsFirstWrong c.in_ok-outline.outline.index.entries l (Some c.in-Some.leaf)) c.deref-2.ensures.value (subst (λ (l : List IndexEntry). IsFirstWrong l c.deref-2.result.now (Some c.in-Some.leaf)) c.items.ensures c.in-Some.ensures)) c.leaf_place-at.ensures in
    let fault = Damaged c.leaf_place-at.result in
    no_tree o fault (no_file o fault blamed (limited o fault (is_limited o r.ends r.place r.pointers.items r.index has)))

pub returns-clause-answers : goal.returns-clause-answers
returns-clause-answers g c =
    let o = (g.P.Right.ReadRight.file c.args.right.now).bytes in
    let r = c.in_ok-outline.outline in
    let said = c.in_ok-said.said.items in
    let stretch = c.deref.result.now in
    let same = none_wrong c.items.result.now c.deref-2.result.now c.wrong_leaf.result c.wrong_leaf.ensures c.in_default.not-Some in
    is_found o r.ends r.place r.pointers.items r.index stretch said c.in_ok-outline.ensures.answers (moved o r.place stretch c.in_ok-data.data.items c.deref.ensures.value c.in_ok-data.ensures.bytes) c.in_ok-said.ensures
    (subst (λ (l : List IndexEntry). c.in_ok-outline.outline.index.entries ≡ l) c.deref-2.ensures.value (subst (λ (l : List IndexEntry). l ≡ c.deref-2.result.now) c.items.ensures same))

pub returns-clause-tree : goal.returns-clause-tree
returns-clause-tree g c =
    let r = c.in_ok-outline.outline in
    meta_found (g.P.Right.ReadRight.file c.args.right.now).bytes r.ends r.place r.pointers.items r.index c.in_ok-outline.ensures.answers
