use Rattle.std.proofs.Common.{length}
use Rattle.tsfile_reader.proofs.PageLoop.{PagesSoFar}
use Rattle.tsfile_reader.proofs.parts.read_pages.Given as goal

abbrev pub invariant-pages : goal.invariant-pages
invariant-pages l = PagesSoFar l.version l.fn.data_type l.fn.encoding l.fn.rest l.left l.pages

abbrev pub decreases-pages : goal.decreases-pages
decreases-pages l = length l.left.bytes.now
