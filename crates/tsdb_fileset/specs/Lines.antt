-- The line of a file in a listing, by what is kept of the file.
use Rattle.std.specs.Prelude.{ℤ, pos, List, [], ◌∷◌, fold, map}
use Rattle.std.specs.Int.{int_max, int_min}
use Rattle.tsdb_base.specs.declared.ids.Space.{Space}
use Rattle.tsdb_model.specs.declared.reply.FileLine.{FileLine}
use Rattle.tsdb_plan.specs.declared.entry.FileEntry.{FileEntry}
use Rattle.tsdb_plan.specs.declared.entry.Hull.{Hull}

-- the least time of all hulls, and the greatest; a file has a hull
abbrev pub hulls_start : List Hull → ℤ
hulls_start [] = pos 0
hulls_start (hull ∷ hulls) = fold int_min hull.from (map (λ other. other.from) hulls)

abbrev pub hulls_end : List Hull → ℤ
hulls_end [] = pos 0
hulls_end (hull ∷ hulls) = fold int_max hull.to (map (λ other. other.to) hulls)

-- the line of a file of the space
abbrev pub line_of : Space → FileEntry → FileLine
line_of space entry = record {
  space = space;
  number = entry.number;
  born = entry.born;
  points = entry.points;
  from = hulls_start entry.hulls;
  to = hulls_end entry.hulls;
}

-- the lines of the files of a list, in its order
abbrev pub file_lines_of : Space → List FileEntry → List FileLine
file_lines_of space entries = map (line_of space) entries
