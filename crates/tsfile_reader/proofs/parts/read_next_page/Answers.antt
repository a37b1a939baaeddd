use Rattle.std.proofs.Common.{arith}
use Rattle.std.proofs.lemmas.Int.{ints}
use Rattle.tsfile_reader.proofs.Later.{first_of, no_later_page}
use Rattle.tsfile_reader.proofs.parts.read_next_page.Goals as goal
use Rattle.tsfile_reader.proofs.parts.read_next_page.Goals.{then-len-ge-MAX_PAGES-via-then-len-ge-MAX_PAGES, then-len-ge-MAX_PAGES-via-else-len-ge-MAX_PAGES+then-index-pages}

pub returns-then-len-ge-MAX_PAGES : goal.returns-then-len-ge-MAX_PAGES
returns-then-len-ge-MAX_PAGES c = record {
  parts =
      let p = c.in_ok-points in
      let v = c.args.pages.now.entries in
      no_later_page c.args.data_type c.args.encoding c.requires.suits c.args.rest.bytes.now p.behind.bytes.now p.points.items c.args.pages.now p.ensures.parts.0.bytes p.ensures.parts.1
      (λ few later. elim c.then-len-ge-MAX_PAGES.branch [
        | then-len-ge-MAX_PAGES-via-then-len-ge-MAX_PAGES w ↦ (let n = v.ok.0 in omega (arith, few, n))
        | then-len-ge-MAX_PAGES-via-else-len-ge-MAX_PAGES+then-index-pages w ↦
            (let first = first_of p.points.items w.index.result.now p.ensures.parts.1.0.some w.index.ensures in
            let less = later w.index.result.now first.0 first.1 in
            grind (arith, ints, less))
      ]);
}
