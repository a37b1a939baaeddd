use Rattle.std.proofs.lemmas.Grind.{common_steps}
use Rattle.std.proofs.Common.{◌≡◌, ℕ, List, Vec, Global, length, subst, sym, ap, ◌∙◌, arith}
use Rattle.std.proofs.lemmas.List.{nil_from_length}
use Rattle.std.proofs.lemmas.Result.{err_from_is_err_and}
use Rattle.tsdb_fields.specs.declared.rest.Rest.{Rest}
use Rattle.tsdb_index.specs.declared.index.IndexEntry.{IndexEntry}
use Rattle.tsdb_pages.specs.declared.tree.Tree.{Tree}
use Rattle.tsdb_pages.specs.File.{head_length}
use Rattle.tsdb_pages.specs.Trees.{IsBefore}
use Rattle.tsdb_path.specs.Nodes.{IsPath}
use Rattle.tsfile_reader.specs.Blame.{HasGroups, IsFirstBadPart}
use Rattle.tsfile_reader.specs.Parts.{FilePart}
use Rattle.tsfile_reader.specs.Steps.{ReadsChunks, StopsBehind}
use Rattle.tsfile_reader.proofs.GroupLoop.{all_groups, first_group, in_first_group, in_next_group, next_group, no_first_group, no_next_group}
use Rattle.tsfile_reader.proofs.Later.{group_bytes}
use Rattle.tsfile_reader.proofs.PageLoop.{pass_stop, stop}
use Rattle.tsfile_reader.proofs.parts.read_groups.Goals as goal

pub returns-in-Err : goal.returns-in-Err
returns-in-Err c =
    let rest = c.args.rest in
    stop group_bytes IsPath rest (λ (d : List ℕ). d) c.in-Err.fault c.of_part.result rest.at (λ (entries : Vec IndexEntry Global). (x : Tree) × HasGroups c.args.version c.args.rest.bytes.now x entries.items) (IsFirstBadPart (head_length) rest.bytes.now) c.in-Err.ensures.parts c.of_part.ensures
    (λ none. subst (λ (n : ℕ). IsFirstBadPart n c.args.rest.bytes.now c.args.rest.at) c.requires (no_first_group rest none))

pub returns-in_err-entries : goal.returns-in_err-entries
returns-in_err-entries c =
    let p = err_from_is_err_and c.from_residual.result c.from_residual.ensures.1 in
    let rest = c.args.rest in
    let d = c.in-Ok.read.0 in
    let b = c.in-Ok.read.1 in
    let e = c.in_err-entries in
    let lacks = pass_stop (λ (r : Vec IndexEntry Global × Rest). ReadsChunks c.args.version d b r.1 r.0.items) (λ (entries : Vec IndexEntry Global). (x : Tree) × HasGroups c.args.version c.args.rest.bytes.now x entries.items) (StopsBehind (FilePart.Group d) b) (IsFirstBadPart (head_length) rest.bytes.now) e.field-0.0 e.ensures
    (λ at stops. subst (λ (n : ℕ). IsFirstBadPart n c.args.rest.bytes.now at) c.requires (in_first_group rest b d at c.in-Ok.ensures.parts.1 c.in-Ok.ensures.parts.0 stops)) in
    rw (p.1, p.2) lacks

pub groups-init : goal.groups-init
groups-init c =
    let r = c.in_ok-entries in
    first_group c.args.version c.args.rest c.in-Ok.read.1 r.left c.in-Ok.read.0 r.entries.items c.in-Ok.ensures.parts.1 c.in-Ok.ensures.parts.0 r.ensures

pub returns-in-Err-read_next_group : goal.returns-in-Err-read_next_group
returns-in-Err-read_next_group c =
    let rest = c.args.rest in
    let left = c.groups.left in
    let last = c.groups.last in
    let empty = sym c.is_empty.ensures ∙ c.groups-test.true in
    let e = c.in-Err-read_next_group in
    stop group_bytes (λ (d : List ℕ). IsPath d × IsBefore last d) left (λ (d : List ℕ). d) e.fault c.of_part-in-Err-read_next_group.result left.at (λ (entries : Vec IndexEntry Global). (x : Tree) × HasGroups c.args.version c.args.rest.bytes.now x entries.items) (IsFirstBadPart (head_length) rest.bytes.now)
    e.ensures.parts c.of_part-in-Err-read_next_group.ensures
    (λ none. subst (λ (n : ℕ). IsFirstBadPart n c.args.rest.bytes.now c.groups.left.at) c.requires (no_next_group c.args.version rest left c.groups.entries.items last c.groups.invariant (λ nil. let n = ap length nil in grind (arith, n, empty)) none))

pub returns-in_err-more : goal.returns-in_err-more
returns-in_err-more c =
    let p = err_from_is_err_and c.from_residual-in_err-more.result c.from_residual-in_err-more.ensures.1 in
    let rest = c.args.rest in
    let left = c.groups.left in
    let d = c.in-Ok-read_next_group.read.0 in
    let b = c.in-Ok-read_next_group.read.1 in
    let parts = c.in-Ok-read_next_group.ensures.parts in
    let e = c.in_err-more in
    let lacks = pass_stop (λ (r : Vec IndexEntry Global × Rest). ReadsChunks c.args.version d b r.1 r.0.items) (λ (entries : Vec IndexEntry Global). (x : Tree) × HasGroups c.args.version c.args.rest.bytes.now x entries.items) (StopsBehind (FilePart.Group d) b) (IsFirstBadPart (head_length) rest.bytes.now) e.field-0.0 e.ensures
    (λ at stops. subst (λ (n : ℕ). IsFirstBadPart n c.args.rest.bytes.now at) c.requires (in_next_group c.args.version rest left b c.groups.entries.items c.groups.last d at c.groups.invariant parts.1.0 parts.1.1 parts.0 stops)) in
    rw (p.1, p.2) lacks

pub groups-preserved : goal.groups-preserved
groups-preserved c =
    let parts = c.in-Ok-read_next_group.ensures.parts in
    let r = c.in_ok-more in
    next_group c.args.version c.args.rest c.groups.left c.in-Ok-read_next_group.read.1 r.behind c.in-Ok-read_next_group.read.0 c.groups.last c.groups.entries.items c.append.new.self.items r.more.items c.groups.invariant parts.1.0 parts.1.1 parts.0 r.ensures c.in_ok-append.ensures.items

pub returns : goal.returns
returns c =
    let empty = sym c.is_empty.ensures ∙ c.groups-test.false in
    let none : length c.groups.left.bytes.now ≡ 0 = grind (arith, empty) in
    all_groups c.args.version c.args.rest c.groups.left c.groups.entries.items c.groups.last c.requires c.groups.invariant (nil_from_length c.groups.left.bytes.now none)

pub groups-smaller : goal.groups-smaller
groups-smaller c = grind (arith, common_steps)
