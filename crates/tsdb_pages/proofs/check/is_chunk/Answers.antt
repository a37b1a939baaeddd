use Rattle.std.proofs.Common.{arith, rules}
use Rattle.tsdb_pages.proofs.check.is_chunk.Goals as goal

pub returns-then-are_pages : goal.returns-then-are_pages
returns-then-are_pages c =
    let pages = c.items-pages.ensures in
    let each = rw pages at c.are_pages.ensures.0 c.if-are_pages.true in (
      λ rise. record {
        suits = search rules;
        some = grind arith;
        few = grind arith;
        pages = each;
        rising = rw pages at c.rise_through.ensures.0 rise;
      },
      λ is. c.rise_through.ensures.1 (rw pages is.rising),
    )
