-- Reading chunks one behind another, and groups: what is read so far, and where reading stops.
use Rattle.std.proofs.Common.{◌≡◌, ℕ, suc, ◌+◌, ◌-◌, ◌≤◌, List, [], ◌∷◌, ◌++◌, length, get_or, refl, sym, ap, subst, ◌∙◌, append_assoc, arith}
use Rattle.std.specs.Prelude.{All, AllPairs}
use Rattle.std.specs.List.{flat_map, AllByRecursion}
use Rattle.std.proofs.lemmas.List.{append-nil, length-append}
use Rattle.std.proofs.lemmas.List.Elements.{All-from_recursion, All-nil, All-push}
use Rattle.tsdb_base.specs.declared.point.Point.{Point}
use Rattle.tsdb_base.specs.declared.value.DataType.{DataType}
use Rattle.tsdb_base.specs.declared.value.Encoding.{Encoding}
use Rattle.tsdb_base.specs.Plain.{plain_text, BeginsWithNone}
use Rattle.tsdb_fields.specs.declared.rest.Rest.{Rest}
use Rattle.tsdb_fields.specs.Reading.{TakesBytes}
use Rattle.tsdb_fields.proofs.Taken.{takes_both, takes_same}
use Rattle.tsdb_index.specs.declared.index.IndexEntry.{IndexEntry}
use Rattle.tsdb_pages.specs.declared.tree.Chunk.{Chunk}
use Rattle.tsdb_pages.specs.File.{ArePageEntries, AreEntries, HasSums, IsChunkEntry, chunk_field, chunk_head, page_field}
use Rattle.tsdb_pages.specs.Trees.{HasParts, IsBefore, IsChunk}
use Rattle.tsdb_pages.proofs.Files.{IsWholeChunk}
use Rattle.tsdb_pages.proofs.Order.{names_rise, pairs_push}
use Rattle.tsfile_reader.specs.declared.page.ChunkHead.{ChunkHead}
use Rattle.tsfile_reader.specs.declared.parts.Pages.{Pages}
use Rattle.tsfile_reader.specs.Parts.{IsBehindChunk, MayFollow, FilePart, part_field, parts_field}
use Rattle.tsfile_reader.specs.Steps.{BeginsWithMark, IsChunkHead, IsLaterHead, ReadsChunk, ReadsChunks, ReadsPages, StopsAt, StopsBehind, chunk_part}
use Rattle.tsdb_pages.proofs.Entries.{chunks_push, flat_push}
use Rattle.tsfile_reader.proofs.Later.{head_bytes}
use Rattle.tsfile_reader.proofs.PageLoop.{other_part}
use Rattle.tsfile_reader.proofs.Rows.{after_chunks, chunks_text, good_chunks, last_of, last_same}

-- ---- a stop behind what was read before

pub stop_behind : (before middle : List FilePart) (left behind : Rest) (text : List ℕ) (at : ℕ) → parts_field middle ≡ parts_field before ++ text → TakesBytes left text behind → StopsAt middle behind at → StopsAt before left at
stop_behind before middle left behind text at grown takes stops = record {
  parts = stops.parts;
  good = stops.good;
  text = text ++ stops.text;
  grown = stops.grown ∙ ap (λ (l : List ℕ). l ++ stops.text) grown ∙ append_assoc (parts_field before) text stops.text;
  rest = stops.rest;
  split = takes.bytes ∙ ap (λ (l : List ℕ). text ++ l) stops.split ∙ sym (append_assoc text stops.text stops.rest);
  place = let n = stops.place in let m = takes.place in let k = length-append text stops.text in omega (arith, n, m, k);
  next = stops.next;
  unfinished = stops.unfinished;
}

-- ---- one chunk

pub chunk_read : (version : ℕ) (device : List ℕ) (head : ChunkHead) (place : ℕ) (left behind : Rest) (found : Pages) (entry : IndexEntry) → IsChunkHead head → left.at ≡ place + length (head_bytes head) → ReadsPages version head.data_type head.encoding left behind found
    → entry ≡ record { device = device; measurement = head.measurement; data_type = head.data_type; encoding = head.encoding; place = place; stats = found.stats; pages = found.entries.items } → ReadsChunk version device head place left behind entry
chunk_read version device head place left behind found entry is at pages entry_is =
    let r = pages.read in
    let chunk : Chunk = record { measurement = head.measurement; data_type = head.data_type; encoding = head.encoding; pages = pages.pages } in
    record {
      chunk = chunk;
      measurement_is = refl;
      type_is = refl;
      encoding_is = refl;
      good = record { suits = is.1; some = r.some; few = r.few; pages = r.good; rising = r.rising };
      parts = record { measurement = is.0; points = r.ranges };
      say = subst (λ (e : IndexEntry). IsChunkEntry device place chunk e) (sym entry_is) (record {
        device_is = refl;
        measurement_is = refl;
        type_is = refl;
        encoding_is = refl;
        place_is = refl;
        stats = r.stats;
        pages = subst (λ (n : ℕ). ArePageEntries head.encoding n pages.pages found.entries.items) at r.say;
      });
      sums = subst (HasSums version) (sym entry_is) (record { stats = r.sum; pages = r.sums });
      takes = pages.takes;
      ends = pages.ends;
    }

-- ---- chunks

-- the bytes of names that rise up to the last one, below a further one
pub all_below : {A : Type 0} (name : A → List ℕ) (front : List A) (last : A) (x : List ℕ) → AllPairs (λ a b. IsBefore (name a) (name b)) (front ++ last ∷ []) → IsBefore (name last) x → AllByRecursion (λ a. IsBefore (name a) x) (front ++ last ∷ [])
all_below name [] last x pairs less = (less, tt)
all_below name (a ∷ []) last x pairs less =
    let step : IsBefore (name a) (name last) = pairs 0 1 a (omega arith) (omega arith) in
    (names_rise (λ n. n) (name a) (name last) x step less, (less, tt))
all_below name (a ∷ b ∷ bs) last x pairs less =
    let step : IsBefore (name a) (name b) = pairs 0 1 a (omega arith) (omega arith) in
    let rest = all_below name (b ∷ bs) last x (λ i j d l m. pairs (suc i) (suc j) d (omega (arith, l)) (omega (arith, m))) less in
    (names_rise (λ n. n) (name a) (name b) x step rest.0, rest)

pub pairs_more : {A : Type 0} (R : A → A → Type 0) (xs : List A) (y : A) → AllPairs R xs → AllByRecursion (λ a. R a y) xs → AllPairs R (xs ++ y ∷ [])
pairs_more R xs y pairs all = pairs_push R xs y pairs (All-from_recursion (λ c. R c y) xs all)

pub recursion_more : {A : Type 0} (P : A → Type 0) (xs : List A) (y : A) → AllByRecursion P xs → P y → AllByRecursion P (xs ++ y ∷ [])
recursion_more P [] y all is = (is, tt)
recursion_more P (x ∷ xs) y all is = (all.0, recursion_more P xs y all.1 is)

chunks_more_text : (chunks : List Chunk) (c : Chunk) → flat_map chunk_field (chunks ++ c ∷ []) ≡ flat_map chunk_field chunks ++ chunk_field c
chunks_more_text chunks c = flat_push chunk_field chunks c

-- these chunks are read, and that is left
pub record ChunksSoFar (version : ℕ) (device : List ℕ) (rest left : Rest) (entries : List IndexEntry) : Type 0 where
  pub front : List Chunk
  pub last : Chunk
  pub whole : AllByRecursion IsWholeChunk (front ++ last ∷ [])
  pub rising : AllPairs (λ a b. IsBefore a.measurement b.measurement) (front ++ last ∷ [])
  pub earlier : List IndexEntry
  pub final : IndexEntry
  pub entries_are : entries ≡ earlier ++ final ∷ []
  pub final-is : final.measurement ≡ last.measurement
  pub say : AreEntries device rest.at (front ++ last ∷ []) entries
  pub sums : All (HasSums version) entries
  pub takes : TakesBytes rest (flat_map chunk_field (front ++ last ∷ [])) left
  pub no_page : BeginsWithMark 80 left.bytes.now → ⊥

-- a chunk's bytes are its head and its pages
chunk_taken : (c : Chunk) (head : ChunkHead) (left middle behind : Rest) → c.measurement ≡ head.measurement → c.data_type ≡ head.data_type → c.encoding ≡ head.encoding → TakesBytes left (head_bytes head) middle → TakesBytes middle (flat_map (page_field c.encoding) c.pages) behind → TakesBytes left (chunk_field c) behind
chunk_taken c head left middle behind m t e head_is pages =
    let same : head_bytes head ≡ chunk_head c = head_same c head m t e in
    takes_both left middle behind (chunk_head c) (flat_map (page_field c.encoding) c.pages) (takes_same left middle (head_bytes head) (chunk_head c) same head_is) pages
  where
    head_same : (c : Chunk) (head : ChunkHead) → c.measurement ≡ head.measurement → c.data_type ≡ head.data_type → c.encoding ≡ head.encoding → head_bytes head ≡ chunk_head c
    head_same c head m t e =
        ap (λ (x : List ℕ). part_field (FilePart.Chunk x head.data_type head.encoding)) (sym m) ∙ ap (λ (x : DataType). part_field (FilePart.Chunk c.measurement x head.encoding)) (sym t) ∙ ap (λ (x : Encoding). part_field (FilePart.Chunk c.measurement c.data_type x)) (sym e)

pub first_chunk : (version : ℕ) (device : List ℕ) (rest middle left : Rest) (head : ChunkHead) (entry : IndexEntry) (entries : List IndexEntry) → entries ≡ entry ∷ [] → TakesBytes rest (head_bytes head) middle → ReadsChunk version device head rest.at middle left entry → ChunksSoFar version device rest left entries
first_chunk version device rest middle left head entry entries is head_is r = record {
  front = [];
  last = r.chunk;
  whole = ((r.good, r.parts), tt);
  rising = λ i j d l m. absurd (omega (arith, l, m));
  earlier = [];
  final = entry;
  entries_are = is;
  final-is = r.say.measurement_is;
  say = subst (λ (l : List IndexEntry). AreEntries device rest.at (r.chunk ∷ []) l) (sym is) (r.say, tt);
  sums = subst (λ (l : List IndexEntry). All (HasSums version) l) (sym is) (All-push (HasSums version) [] entry (All-nil (HasSums version)) r.sums);
  takes = takes_same rest left (chunk_field r.chunk) (chunk_field r.chunk ++ []) (sym (append-nil (chunk_field r.chunk))) (chunk_taken r.chunk head rest middle left r.measurement_is r.type_is r.encoding_is head_is r.takes);
  no_page = r.ends;
}

pub next_chunk_read : (version : ℕ) (device : List ℕ) (rest left middle behind : Rest) (head : ChunkHead) (entry : IndexEntry) (old new : List IndexEntry) (so_far : ChunksSoFar version device rest left old) → new ≡ old ++ entry ∷ [] → TakesBytes left (head_bytes head) middle → IsBefore so_far.final.measurement head.measurement
    → ReadsChunk version device head left.at middle behind entry → ChunksSoFar version device rest behind new
next_chunk_read version device rest left middle behind head entry old new so_far is head_is less r =
    let chunks = so_far.front ++ so_far.last ∷ [] in
    let above : IsBefore so_far.last.measurement r.chunk.measurement = subst (λ (x : List ℕ). IsBefore so_far.last.measurement x) (sym r.measurement_is) (subst (λ (x : List ℕ). IsBefore x head.measurement) so_far.final-is less) in
    let place : left.at ≡ rest.at + length (flat_map chunk_field (so_far.front ++ so_far.last ∷ [])) = so_far.takes.place in
    record {
      front = chunks;
      last = r.chunk;
      whole = recursion_more IsWholeChunk chunks r.chunk so_far.whole (r.good, r.parts);
      rising = pairs_more (λ (a b : Chunk). IsBefore a.measurement b.measurement) chunks r.chunk so_far.rising (all_below (λ (c : Chunk). c.measurement) so_far.front so_far.last r.chunk.measurement so_far.rising above);
      earlier = old;
      final = entry;
      entries_are = is;
      final-is = r.say.measurement_is;
      say = subst (λ (l : List IndexEntry). AreEntries device rest.at ((so_far.front ++ so_far.last ∷ []) ++ r.chunk ∷ []) l) (sym is) (chunks_push device rest.at chunks old r.chunk entry so_far.say (subst (λ (n : ℕ). IsChunkEntry device n r.chunk entry) place r.say));
      sums = subst (λ (l : List IndexEntry). All (HasSums version) l) (sym is) (All-push (HasSums version) old entry so_far.sums r.sums);
      takes = takes_same rest behind (flat_map chunk_field (so_far.front ++ so_far.last ∷ []) ++ chunk_field r.chunk) (flat_map chunk_field ((so_far.front ++ so_far.last ∷ []) ++ r.chunk ∷ [])) (sym (chunks_more_text chunks r.chunk))
          (takes_both rest left behind (flat_map chunk_field chunks) (chunk_field r.chunk) so_far.takes (chunk_taken r.chunk head left middle behind r.measurement_is r.type_is r.encoding_is head_is r.takes));
      no_page = r.ends;
    }

-- the last entry is the one that indexing gives
pub last_at : (earlier : List IndexEntry) (final e : IndexEntry) (entries : List IndexEntry) → entries ≡ earlier ++ final ∷ [] → e ≡ get_or entries (length entries - 1) e → e ≡ final
last_at earlier final e entries is at = at ∙ ap (λ (l : List IndexEntry). get_or l (length l - 1) e) is ∙ last_of_row earlier final e
  where
    last_of_row : (earlier : List IndexEntry) (final e : IndexEntry) → get_or (earlier ++ final ∷ []) (length (earlier ++ final ∷ []) - 1) e ≡ final
    last_of_row [] final e = refl
    last_of_row (x ∷ xs) final e =
        let n = length-append xs (final ∷ []) in
        let k : length (x ∷ (xs ++ final ∷ [])) - 1 ≡ suc (length (xs ++ final ∷ []) - 1) = omega (arith, n) in
        ap (λ (i : ℕ). get_or (x ∷ (xs ++ final ∷ [])) i e) k ∙ last_of_row xs final e

pub last_measurement : (version : ℕ) (device : List ℕ) (rest left : Rest) (entries : List IndexEntry) (so_far : ChunksSoFar version device rest left entries) (e : IndexEntry) (n : ℕ) → n ≡ length entries → e ≡ get_or entries (n - 1) e → e.measurement ≡ so_far.final.measurement
last_measurement version device rest left entries so_far e n count at =
    ap (λ (x : IndexEntry). x.measurement) (last_at so_far.earlier so_far.final e entries so_far.entries_are (at ∙ ap (λ (k : ℕ). get_or entries (k - 1) e) count))

pub some_entries : (version : ℕ) (device : List ℕ) (rest left : Rest) (entries : List IndexEntry) → ChunksSoFar version device rest left entries → 1 ≤ length entries
some_entries version device rest left entries so_far =
    let n = ap length so_far.entries_are in
    let m = length-append so_far.earlier (so_far.final ∷ []) in
    omega (arith, n, m)

-- ---- where reading chunks stops

-- behind the head of a group stands no chunk
pub no_first_chunk : (device : List ℕ) (left : Rest) → BeginsWithNone head_bytes IsChunkHead left.bytes.now → StopsBehind (FilePart.Group device) left left.at
no_first_chunk device left none = λ before are. record {
  parts = FilePart.Group device ∷ before;
  good = are;
  text = [];
  grown = sym (append-nil (parts_field (FilePart.Group device ∷ before)));
  rest = left.bytes.now;
  split = refl;
  place = omega arith;
  next = next_of device left.bytes.now none before;
  unfinished = λ nil may. may;
}
  where
    next_of : (device : List ℕ) (bytes : List ℕ) → BeginsWithNone head_bytes IsChunkHead bytes → (before : List FilePart) (part : FilePart) (behind : List ℕ) → MayFollow (FilePart.Group device ∷ before) part → bytes ≡ part_field part ++ behind → ⊥
    next_of device bytes none before (FilePart.Group other) behind may is = may
    next_of device bytes none before (FilePart.Chunk name kind form) behind may is = none (record { measurement = name; data_type = kind; encoding = form }) behind may is
    next_of device bytes none before (FilePart.Page kind form points) behind may is = may

-- inside the first chunk
pub in_first_chunk : (device : List ℕ) (rest middle : Rest) (head : ChunkHead) (at : ℕ) → IsChunkHead head → TakesBytes rest (head_bytes head) middle → StopsBehind (chunk_part head) middle at → StopsBehind (FilePart.Group device) rest at
in_first_chunk device rest middle head at is takes stops = λ before are.
    stop_behind (FilePart.Group device ∷ before) (chunk_part head ∷ FilePart.Group device ∷ before) rest middle (head_bytes head) at refl takes (stops (FilePart.Group device ∷ before) (is, are))

-- behind chunks stands no later one
pub no_next_chunk : (version : ℕ) (device : List ℕ) (rest left : Rest) (entries : List IndexEntry) (so_far : ChunksSoFar version device rest left entries) → BeginsWithMark 67 left.bytes.now → BeginsWithNone head_bytes (IsLaterHead so_far.final.measurement) left.bytes.now → StopsBehind (FilePart.Group device) rest left.at
no_next_chunk version device rest left entries so_far mark none = λ before are.
    let chunks = so_far.front ++ so_far.last ∷ [] in
    let n = length-append so_far.front (so_far.last ∷ []) in
    let l = last_of chunks (FilePart.Group device ∷ before) (omega (arith, n)) so_far.whole in
    let same : l.last ≡ so_far.last = last_same l.front so_far.front l.last so_far.last (sym l.chunks-are) in
    record {
      parts = after_chunks chunks (FilePart.Group device ∷ before);
      good = good_chunks device chunks before are so_far.whole so_far.rising;
      text = flat_map chunk_field chunks;
      grown = chunks_text chunks (FilePart.Group device ∷ before);
      rest = left.bytes.now;
      split = so_far.takes.bytes;
      place = so_far.takes.place;
      next = λ part behind may is.
          next_of so_far.final.measurement left.bytes.now mark none l.chunk.t l.chunk.e l.chunk.points l.chunk.rest
          (λ x b. subst (λ (y : List ℕ). IsBefore y x) (ap (λ (c : Chunk). c.measurement) same ∙ sym so_far.final-is) (l.chunk.to_chunk x b))
          part behind (subst (λ (ps : List FilePart). MayFollow ps part) l.chunk.is may) is;
      unfinished = λ nil may. no_mark left.bytes.now mark nil;
    }
  where
    no_mark : (bytes : List ℕ) → BeginsWithMark 67 bytes → bytes ≡ [] → ⊥
    no_mark bytes mark nil = let both : 67 ∷ mark.0 ≡ [] = sym mark.1 ∙ nil in absurd cc

    next_of : (last bytes : List ℕ) → BeginsWithMark 67 bytes → BeginsWithNone head_bytes (IsLaterHead last) bytes → (t : DataType) (e : Encoding) (points : List Point) (rest : List FilePart) → ((x : List ℕ) → IsBehindChunk rest x → IsBefore last x)
        → (part : FilePart) (behind : List ℕ) → MayFollow (FilePart.Page t e points ∷ rest) part → bytes ≡ part_field part ++ behind → ⊥
    next_of last bytes mark none t e points rest to (FilePart.Group device) behind may is = other_part 67 71 bytes mark.0 (plain_text device ++ behind) (λ same. absurd (omega (arith, same))) mark.1 is
    next_of last bytes mark none t e points rest to (FilePart.Chunk name kind form) behind may is = none (record { measurement = name; data_type = kind; encoding = form }) behind ((may.0, may.1), to name may.2) is
    next_of last bytes mark none t e points rest to (FilePart.Page kind form more) behind may is = other_part 67 80 bytes mark.0 _ (λ same. absurd (omega (arith, same))) mark.1 is

-- inside a later chunk
pub in_next_chunk : (version : ℕ) (device : List ℕ) (rest left middle : Rest) (entries : List IndexEntry) (so_far : ChunksSoFar version device rest left entries) (head : ChunkHead) (at : ℕ) → IsLaterHead so_far.final.measurement head → TakesBytes left (head_bytes head) middle → StopsBehind (chunk_part head) middle at
    → StopsBehind (FilePart.Group device) rest at
in_next_chunk version device rest left middle entries so_far head at later takes stops = λ before are.
    let chunks = so_far.front ++ so_far.last ∷ [] in
    let n = length-append so_far.front (so_far.last ∷ []) in
    let l = last_of chunks (FilePart.Group device ∷ before) (omega (arith, n)) so_far.whole in
    let same : l.last ≡ so_far.last = last_same l.front so_far.front l.last so_far.last (sym l.chunks-are) in
    let parts = after_chunks chunks (FilePart.Group device ∷ before) in
    let good = good_chunks device chunks before are so_far.whole so_far.rising in
    let less : IsBefore l.last.measurement head.measurement = subst (λ (x : List ℕ). IsBefore x head.measurement) (so_far.final-is ∙ ap (λ (c : Chunk). c.measurement) (sym same)) later.1 in
    let may : MayFollow (after_chunks (so_far.front ++ so_far.last ∷ []) (FilePart.Group device ∷ before)) (chunk_part head) =
    subst (λ (ps : List FilePart). MayFollow ps (chunk_part head)) (sym l.chunk.is) (later.0.0, later.0.1, l.chunk.from_chunk head.measurement less) in
    stop_behind (FilePart.Group device ∷ before) (chunk_part head ∷ parts) rest middle (flat_map chunk_field chunks ++ head_bytes head) at
    (ap (λ (l : List ℕ). l ++ head_bytes head) (chunks_text chunks (FilePart.Group device ∷ before)) ∙ append_assoc (parts_field (FilePart.Group device ∷ before)) (flat_map chunk_field chunks) (head_bytes head))
    (takes_both rest left middle (flat_map chunk_field chunks) (head_bytes head) so_far.takes takes) (stops parts (may, good))

pub all_chunks : (version : ℕ) (device : List ℕ) (rest left : Rest) (entries : List IndexEntry) → ChunksSoFar version device rest left entries → (BeginsWithMark 67 left.bytes.now → ⊥) → ReadsChunks version device rest left entries
all_chunks version device rest left entries so_far none =
    let chunks = so_far.front ++ so_far.last ∷ [] in
    let n = length-append so_far.front (so_far.last ∷ []) in
    record {
      chunks = chunks;
      read = record {
        some = omega (arith, n);
        good = All-from_recursion IsChunk chunks (firsts chunks so_far.whole);
        parts = All-from_recursion HasParts chunks (seconds chunks so_far.whole);
        rising = so_far.rising;
        say = so_far.say;
        sums = so_far.sums;
      };
      takes = so_far.takes;
      no_page = so_far.no_page;
      no_chunk = none;
    }
  where
    firsts : (cs : List Chunk) → AllByRecursion IsWholeChunk cs → AllByRecursion IsChunk cs
    firsts [] all = tt
    firsts (c ∷ cs) all = (all.0.0, firsts cs all.1)

    seconds : (cs : List Chunk) → AllByRecursion IsWholeChunk cs → AllByRecursion HasParts cs
    seconds [] all = tt
    seconds (c ∷ cs) all = (all.0.1, seconds cs all.1)
