-- The longest row at the start of a list, and the inner plan that is made of such rows.
use Rattle.std.proofs.Common.{◌≡◌, ℕ, ◌+◌, ◌<◌, ◌≤◌, List, length, take, get_or, true, ⊎_elim, sym, ap, ◌∙◌, subst, arith}
use Rattle.std.proofs.lemmas.Bool.{false≢true, cases_lt}
use Rattle.std.proofs.lemmas.List.{get_or-take, length-take-le, take-take}
use Rattle.std.proofs.lemmas.List.Sums.{sum_by_more, sum_by-take-le}
use Rattle.tsdb_plan.specs.declared.entry.FileEntry.{FileEntry}
use Rattle.tsdb_plan.specs.Files.{AreFree, total_bytes}
use Rattle.tsdb_plan.specs.InnerPlan.{IsInnerRow}
use Rattle.tsdb_base.specs.Limits.{max_inputs, max_plan_bytes}

-- the bytes of a prefix, and of one file more
pub bytes_more : (files : List FileEntry) (count : ℕ) (file : FileEntry) → count < length files → file ≡ get_or files count file → total_bytes (take (count + 1) files) ≡ total_bytes (take count files) + file.size
bytes_more files count file l e = sum_by_more (λ f. f.size) files count file l ∙ ap (λ f. total_bytes (take count files) + f.size) (sym e)

-- a longer prefix has at least as many bytes
pub bytes_of-take-le : (files : List FileEntry) (m n : ℕ) → m ≤ n → total_bytes (take m files) ≤ total_bytes (take n files)
bytes_of-take-le files m n l = let e = take-take m n files l in let h = sum_by-take-le (λ (f : FileEntry). f.size) (take n files) m in let P : List FileEntry → Type 0 = λ xs. total_bytes xs ≤ total_bytes (take n files) in subst P e h

-- no row goes on over a claimed file
pub stops_at_claimed : (files : List FileEntry) (count n : ℕ) (file : FileEntry) → count < length files → file ≡ get_or files count file → file.claimed ≡ true → n ≤ length files → AreFree (take n files) → n ≤ count
stops_at_claimed files count n file l e claimed within free =
    ⊎_elim
    (λ (past : count < n).
    let longer : count < length (take n files) = omega (arith, length-take-le n files within) in
    let here : get_or (take n files) count file ≡ file = get_or-take n files count file past ∙ sym e in
    absurd (false≢true (sym (ap (λ f. f.claimed) (sym here) ∙ free count file longer) ∙ claimed)))
    (λ (h : n ≤ count). h)
    (cases_lt count n)

-- nor over one that does not fit beside those before it
pub stops_at_bytes : (files : List FileEntry) (count n room limit : ℕ) (file : FileEntry) → count < length files → file ≡ get_or files count file → room + total_bytes (take count files) ≡ limit → room < file.size → total_bytes (take n files) ≤ limit → n ≤ count
stops_at_bytes files count n room limit file l e sum big fits =
    ⊎_elim
    (λ (past : count < n). absurd (omega (arith, bytes_more files count file l e, bytes_of-take-le files (count + 1) n (omega arith))))
    (λ (h : n ≤ count). h)
    (cases_lt count n)

pub stops_at_ten : (files : List FileEntry) (count n : ℕ) → count ≡ max_inputs → n ≤ length files → length (take n files) ≤ max_inputs → n ≤ count
stops_at_ten files count n e within few = omega (arith, length-take-le n files within)

pub row_so_far : (files : List FileEntry) (count room : ℕ) → count ≤ length files → AreFree (take count files) → count ≤ max_inputs → room + total_bytes (take count files) ≡ max_plan_bytes → IsInnerRow (take count files)
row_so_far files count room within free few sum = record { free = free; few = omega (arith, length-take-le count files within); fits = omega arith }
