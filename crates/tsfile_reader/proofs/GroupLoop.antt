-- Reading groups one behind another: what is read so far, and where reading stops.
use Rattle.std.proofs.Common.{◌≡◌, ℕ, ◌+◌, List, [], ◌∷◌, ◌++◌, length, refl, sym, ap, subst, ◌∙◌, arith}
use Rattle.std.specs.Prelude.{All, AllPairs}
use Rattle.std.specs.List.{flat_map, AllByRecursion}
use Rattle.std.proofs.lemmas.List.{append-nil, length-append}
use Rattle.std.proofs.lemmas.List.Elements.{All-append, All-from_recursion, All-nil, recursion_from_All}
use Rattle.tsdb_base.specs.declared.point.Point.{Point}
use Rattle.tsdb_base.specs.declared.value.DataType.{DataType}
use Rattle.tsdb_base.specs.declared.value.Encoding.{Encoding}
use Rattle.tsdb_base.specs.Plain.{BeginsWithNone}
use Rattle.tsdb_fields.specs.declared.rest.Rest.{Rest}
use Rattle.tsdb_fields.specs.Reading.{TakesBytes}
use Rattle.tsdb_fields.proofs.Taken.{takes_both, takes_same}
use Rattle.tsdb_index.specs.declared.index.IndexEntry.{IndexEntry}
use Rattle.tsdb_path.specs.Nodes.{IsPath}
use Rattle.tsdb_pages.specs.declared.tree.Chunk.{Chunk}
use Rattle.tsdb_pages.specs.declared.tree.Group.{Group}
use Rattle.tsdb_pages.specs.declared.tree.Tree.{Tree}
use Rattle.tsdb_pages.specs.File.{AreEntries, AreEntriesIn, AreEntriesOf, HasSums, chunk_field, group_field, group_head, head_length}
use Rattle.tsdb_pages.specs.Trees.{HasParts, IsBefore, IsChunk, IsGroup, chunks_of}
use Rattle.tsdb_pages.proofs.Files.{IsWholeChunk}
use Rattle.tsdb_pages.proofs.Entries.{count_all, flat_push, groups_push}
use Rattle.tsfile_reader.specs.Blame.{HasGroups, IsFirstBadPart}
use Rattle.tsfile_reader.specs.Parts.{IsBehindGroup, MayFollow, FilePart, part_field}
use Rattle.tsfile_reader.specs.Steps.{BeginsWithMark, ReadsChunks, StopsAt, StopsBehind}
use Rattle.tsfile_reader.proofs.ChunkLoop.{all_below, pairs_more, recursion_more, stop_behind}
use Rattle.tsfile_reader.proofs.Later.{group_bytes}
use Rattle.tsfile_reader.proofs.Rows.{IsFullGroup, after_groups, good_groups, groups_text, last_group_of, last_same}

abbrev pub all_of : List (List IndexEntry) → List IndexEntry
all_of lists = flat_map (λ (list : List IndexEntry). list) lists

-- these groups are read, and that is left
pub record GroupsSoFar (version : ℕ) (rest left : Rest) (entries : List IndexEntry) (last : List ℕ) : Type 0 where
  pub front : List Group
  pub final : Group
  pub final-is : final.device ≡ last
  pub full : AllByRecursion IsFullGroup (front ++ final ∷ [])
  pub rising : AllPairs (λ a b. IsBefore a.device b.device) (front ++ final ∷ [])
  pub by_group : List (List IndexEntry)
  pub all : all_of by_group ≡ entries
  pub say : AreEntriesOf rest.at (front ++ final ∷ []) by_group
  pub sums : All (HasSums version) entries
  pub takes : TakesBytes rest (flat_map group_field (front ++ final ∷ [])) left
  pub no_page : BeginsWithMark 80 left.bytes.now → ⊥
  pub no_chunk : BeginsWithMark 67 left.bytes.now → ⊥

-- a group that was read
record ReadsGroup (version : ℕ) (device : List ℕ) (left behind : Rest) (entries : List IndexEntry) : Type 0 where
  pub group : Group
  pub device_is : group.device ≡ device
  pub full : IsFullGroup group
  pub say : AreEntries group.device (left.at + length (group_head group)) group.chunks entries
  pub sums : All (HasSums version) entries
  pub takes : TakesBytes left (group_field group) behind
  pub no_page : BeginsWithMark 80 behind.bytes.now → ⊥
  pub no_chunk : BeginsWithMark 67 behind.bytes.now → ⊥

group_of : (version : ℕ) (device : List ℕ) (left middle behind : Rest) (entries : List IndexEntry) → IsPath device → TakesBytes left (group_bytes device) middle → ReadsChunks version device middle behind entries → ReadsGroup version device left behind entries
group_of version device left middle behind entries is head r =
    let group : Group = record { device = device; chunks = r.chunks } in
    record {
      group = group;
      device_is = refl;
      full = record {
        device = is;
        is = record { some = r.read.some; chunks = r.read.good; rising = r.read.rising };
        whole = both r.chunks (recursion_from_All IsChunk r.chunks r.read.good) (recursion_from_All HasParts r.chunks r.read.parts);
      };
      say = subst (λ (n : ℕ). AreEntries device n r.chunks entries) head.place r.read.say;
      sums = r.read.sums;
      takes = takes_both left middle behind (group_bytes device) (flat_map chunk_field r.chunks) head r.takes;
      no_page = r.no_page;
      no_chunk = r.no_chunk;
    }
  where
    both : (cs : List Chunk) → AllByRecursion IsChunk cs → AllByRecursion HasParts cs → AllByRecursion IsWholeChunk cs
    both [] a b = tt
    both (c ∷ cs) a b = ((a.0, b.0), both cs a.1 b.1)

pub first_group : (version : ℕ) (rest middle left : Rest) (device : List ℕ) (entries : List IndexEntry) → IsPath device → TakesBytes rest (group_bytes device) middle → ReadsChunks version device middle left entries → GroupsSoFar version rest left entries device
first_group version rest middle left device entries is head r =
    let g = group_of version device rest middle left entries is head r in
    record {
      front = [];
      final = g.group;
      final-is = g.device_is;
      full = (g.full, tt);
      rising = λ i j d l m. absurd (omega (arith, l, m));
      by_group = entries ∷ [];
      all = append-nil entries;
      say = (g.say, tt);
      sums = g.sums;
      takes = takes_same rest left (group_field g.group) (group_field g.group ++ []) (sym (append-nil (group_field g.group))) g.takes;
      no_page = g.no_page;
      no_chunk = g.no_chunk;
    }

pub next_group : (version : ℕ) (rest left middle behind : Rest) (device last : List ℕ) (old new : List IndexEntry) (more : List IndexEntry) → GroupsSoFar version rest left old last → IsPath device → IsBefore last device → TakesBytes left (group_bytes device) middle → ReadsChunks version device middle behind more
    → new ≡ old ++ more → GroupsSoFar version rest behind new device
next_group version rest left middle behind device last old new more so_far is less head r new_is =
    let g = group_of version device left middle behind more is head r in
    let groups = so_far.front ++ so_far.final ∷ [] in
    let above : IsBefore so_far.final.device g.group.device = subst (λ (x : List ℕ). IsBefore so_far.final.device x) (sym g.device_is) (subst (λ (x : List ℕ). IsBefore x device) (sym so_far.final-is) less) in
    let place : left.at ≡ rest.at + length (flat_map group_field (so_far.front ++ so_far.final ∷ [])) = so_far.takes.place in
    record {
      front = groups;
      final = g.group;
      final-is = g.device_is;
      full = recursion_more IsFullGroup groups g.group so_far.full g.full;
      rising = pairs_more (λ (a b : Group). IsBefore a.device b.device) groups g.group so_far.rising (all_below (λ (c : Group). c.device) so_far.front so_far.final g.group.device so_far.rising above);
      by_group = so_far.by_group ++ more ∷ [];
      all = flat_push (λ (list : List IndexEntry). list) so_far.by_group more ∙ ap (λ (l : List IndexEntry). l ++ more) so_far.all ∙ sym new_is;
      say = groups_push rest.at groups so_far.by_group g.group more so_far.say (subst (λ (n : ℕ). AreEntries g.group.device (n + length (group_head g.group)) g.group.chunks more) place g.say);
      sums = subst (λ (l : List IndexEntry). All (HasSums version) l) (sym new_is) (All-append (HasSums version) old more so_far.sums g.sums);
      takes = takes_same rest behind (flat_map group_field (so_far.front ++ so_far.final ∷ []) ++ group_field g.group) (flat_map group_field ((so_far.front ++ so_far.final ∷ []) ++ g.group ∷ []))
          (sym (flat_push group_field groups g.group))
          (takes_both rest left behind (flat_map group_field groups) (group_field g.group) so_far.takes g.takes);
      no_page = g.no_page;
      no_chunk = g.no_chunk;
    }

-- ---- where reading stops

-- from the beginning it is the first bad part
pub first_bad : (rest : Rest) (at : ℕ) → StopsAt [] rest at → IsFirstBadPart rest.at rest.bytes.now at
first_bad rest at stops = record {
  parts = stops.parts;
  good = stops.good;
  rest = stops.rest;
  split = stops.split ∙ ap (λ (l : List ℕ). l ++ stops.rest) (sym stops.grown);
  place = stops.place ∙ ap (λ (l : List ℕ). rest.at + length l) (sym stops.grown);
  next = stops.next;
  unfinished = stops.unfinished;
}

pub no_first_group : (rest : Rest) → BeginsWithNone group_bytes IsPath rest.bytes.now → IsFirstBadPart rest.at rest.bytes.now rest.at
no_first_group rest none = record {
  parts = [];
  good = tt;
  rest = rest.bytes.now;
  split = refl;
  place = omega arith;
  next = next_of rest.bytes.now none;
  unfinished = λ nil may. may;
}
  where
    next_of : (bytes : List ℕ) → BeginsWithNone group_bytes IsPath bytes → (part : FilePart) (behind : List ℕ) → MayFollow [] part → bytes ≡ part_field part ++ behind → ⊥
    next_of bytes none (FilePart.Group device) behind may is = none device behind may is
    next_of bytes none (FilePart.Chunk name kind form) behind may is = may
    next_of bytes none (FilePart.Page kind form points) behind may is = may

pub in_first_group : (rest middle : Rest) (device : List ℕ) (at : ℕ) → IsPath device → TakesBytes rest (group_bytes device) middle → StopsBehind (FilePart.Group device) middle at → IsFirstBadPart rest.at rest.bytes.now at
in_first_group rest middle device at is head stops = first_bad rest at (stop_behind [] (FilePart.Group device ∷ []) rest middle (group_bytes device) at refl head (stops [] (is, tt)))

pub no_next_group : (version : ℕ) (rest left : Rest) (entries : List IndexEntry) (last : List ℕ) → GroupsSoFar version rest left entries last → (left.bytes.now ≡ [] → ⊥) → BeginsWithNone group_bytes (λ x. IsPath x × IsBefore last x) left.bytes.now → IsFirstBadPart rest.at rest.bytes.now left.at
no_next_group version rest left entries last so_far some none =
    let groups = so_far.front ++ so_far.final ∷ [] in
    let n = length-append so_far.front (so_far.final ∷ []) in
    let l = last_group_of groups (omega (arith, n)) so_far.full in
    let same : l.last ≡ so_far.final = last_same l.front so_far.front l.last so_far.final (sym l.groups_are) in
    record {
      parts = after_groups groups [];
      good = good_groups groups so_far.full so_far.rising;
      rest = left.bytes.now;
      split = so_far.takes.bytes ∙ ap (λ (t : List ℕ). t ++ left.bytes.now) (sym (groups_text groups []));
      place = so_far.takes.place ∙ ap (λ (t : List ℕ). rest.at + length t) (sym (groups_text groups []));
      next = λ part behind may is.
          next_of last left.bytes.now so_far.no_page so_far.no_chunk none l.group.t l.group.e l.group.points l.group.rest
          (λ x b. subst (λ (y : List ℕ). IsBefore y x) (ap (λ (g : Group). g.device) same ∙ so_far.final-is) (l.group.to_group x b))
          part behind (subst (λ (ps : List FilePart). MayFollow ps part) l.group.is may) is;
      unfinished = λ nil may. some nil;
    }
  where
    next_of : (last bytes : List ℕ) → (BeginsWithMark 80 bytes → ⊥) → (BeginsWithMark 67 bytes → ⊥) → BeginsWithNone group_bytes (λ x. IsPath x × IsBefore last x) bytes → (t : DataType) (e : Encoding) (points : List Point) (rest : List FilePart)
        → ((x : List ℕ) → IsBehindGroup rest x → IsBefore last x) → (part : FilePart) (behind : List ℕ) → MayFollow (FilePart.Page t e points ∷ rest) part → bytes ≡ part_field part ++ behind → ⊥
    next_of last bytes no_page no_chunk none t e points rest to (FilePart.Group device) behind may is = none device behind (may.0, to device may.1) is
    next_of last bytes no_page no_chunk none t e points rest to (FilePart.Chunk name kind form) behind may is = no_chunk (_, is)
    next_of last bytes no_page no_chunk none t e points rest to (FilePart.Page kind form more) behind may is = no_page (_, is)

pub in_next_group : (version : ℕ) (rest left middle : Rest) (entries : List IndexEntry) (last device : List ℕ) (at : ℕ) → GroupsSoFar version rest left entries last → IsPath device → IsBefore last device → TakesBytes left (group_bytes device) middle → StopsBehind (FilePart.Group device) middle at → IsFirstBadPart rest.at rest.bytes.now at
in_next_group version rest left middle entries last device at so_far is less head stops =
    let groups = so_far.front ++ so_far.final ∷ [] in
    let n = length-append so_far.front (so_far.final ∷ []) in
    let l = last_group_of groups (omega (arith, n)) so_far.full in
    let same : l.last ≡ so_far.final = last_same l.front so_far.front l.last so_far.final (sym l.groups_are) in
    let parts = after_groups groups [] in
    let good = good_groups groups so_far.full so_far.rising in
    let above : IsBefore l.last.device device = subst (λ (x : List ℕ). IsBefore x device) (sym so_far.final-is ∙ ap (λ (g : Group). g.device) (sym same)) less in
    let may : MayFollow (after_groups (so_far.front ++ so_far.final ∷ []) []) (FilePart.Group device) = subst (λ (ps : List FilePart). MayFollow ps (FilePart.Group device)) (sym l.group.is) (is, l.group.from_group device above) in
    first_bad rest at (stop_behind [] (FilePart.Group device ∷ parts) rest middle (flat_map group_field groups ++ group_bytes device) at (ap (λ (t : List ℕ). t ++ group_bytes device) (groups_text groups []))
    (takes_both rest left middle (flat_map group_field groups) (group_bytes device) so_far.takes head) (stops parts (may, good)))

-- ---- all groups

-- the entries of a tree are as many as its chunks
pub entries_counted : (tree : Tree) (entries : List IndexEntry) → AreEntriesIn tree entries → length entries ≡ length (chunks_of tree.groups)
entries_counted tree entries say = ap length (sym say.all) ∙ count_all _ tree.groups say.by_group say.say

pub all_groups : (version : ℕ) (rest left : Rest) (entries : List IndexEntry) (last : List ℕ) → rest.at ≡ head_length → GroupsSoFar version rest left entries last → left.bytes.now ≡ [] → (tree : Tree) × HasGroups version rest.bytes.now tree entries
all_groups version rest left entries last at so_far nil =
    let groups = so_far.front ++ so_far.final ∷ [] in
    let n = length-append so_far.front (so_far.final ∷ []) in
    let tree : Tree = record { groups = groups } in (
      tree,
      record {
        good = record {
          some = omega (arith, n);
          groups_are = All-from_recursion IsGroup groups (are groups so_far.full);
          rising = so_far.rising;
          devices = All-from_recursion (λ (g : Group). IsPath g.device) groups (devices groups so_far.full);
          chunks = parts groups so_far.full;
        };
        bytes_are = so_far.takes.bytes ∙ ap (λ (l : List ℕ). flat_map group_field groups ++ l) nil ∙ append-nil (flat_map group_field groups);
        say = record {
          by_group = so_far.by_group;
          all = so_far.all;
          say = subst (λ (p : ℕ). AreEntriesOf p (so_far.front ++ so_far.final ∷ []) so_far.by_group) at so_far.say;
        };
        sums = so_far.sums;
      },
    )
  where
    are : (gs : List Group) → AllByRecursion IsFullGroup gs → AllByRecursion IsGroup gs
    are [] all = tt
    are (g ∷ gs) all = (all.0.is, are gs all.1)

    devices : (gs : List Group) → AllByRecursion IsFullGroup gs → AllByRecursion (λ (g : Group). IsPath g.device) gs
    devices [] all = tt
    devices (g ∷ gs) all = (all.0.device, devices gs all.1)

    seconds : (cs : List Chunk) → AllByRecursion IsWholeChunk cs → AllByRecursion HasParts cs
    seconds [] all = tt
    seconds (c ∷ cs) all = (all.0.1, seconds cs all.1)

    parts : (gs : List Group) → AllByRecursion IsFullGroup gs → All HasParts (chunks_of gs)
    parts [] all = All-nil HasParts
    parts (g ∷ gs) all = All-append HasParts g.chunks (chunks_of gs) (All-from_recursion HasParts g.chunks (seconds g.chunks all.0.whole)) (parts gs all.1)
