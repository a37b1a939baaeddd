-- Listings.
use Rattle.std.proofs.Common.{◌≡◌, ℕ, ◌<◌, ◌^◌, Bool, true, false, cond, List, [], ◌∷◌, ◌++◌, length, refl, ap, sym, ◌∙◌, arith, codes, append_assoc, append-nil, get_or, slice_index}
use Rattle.std.specs.List.{AllByRecursion}
use Rattle.std.specs.Prelude.{ℤ}
use Rattle.tsdb_base.specs.declared.ids.FileNumber.{FileNumber}
use Rattle.tsdb_base.specs.declared.ids.Stamp.{Stamp}
use Rattle.std.specs.Fmt.{decimal, signed_decimal}
use Rattle.std.proofs.lemmas.Bool.{false≢true}
use Rattle.std.proofs.lemmas.List.{append_cancel_left}
use Rattle.std.proofs.lemmas.List.Elements.{filter-append}
use Rattle.tsdb_base.specs.declared.ids.Space.{Space}
use Rattle.tsdb_base.specs.declared.ids.Space.TheVariants.{Sequence, Unsequence}
use Rattle.tsdb_model.specs.declared.reply.FileLine.{FileLine}
use Rattle.tsdb_model.specs.declared.reply.Listing.{Listing}
use Rattle.tsdb_print.specs.Text.{file_text, line, listing_text, same_space, space_name, working_text}
use Rattle.tsdb_print.specs.Alike.{IsFileInRange, IsListingInRange, files_in_space, shown_listing}
use Rattle.tsdb_print.proofs.Pieces.{file_lines}
use Rattle.tsdb_print.proofs.Words.{Begins, tail_of, Stops, IsWord, same_word, after_decimal, after_signed, fits_wide}

-- what stands behind the space of a file, up to the end of its line, and what follows
abbrev behind_space : FileLine → List ℕ → List ℕ
behind_space file x = codes " " ++ (decimal file.number.0 ++ (codes " born " ++ (decimal file.born.0 ++ (codes " points " ++ (decimal file.points
    ++ (codes " from " ++ (signed_decimal file.from ++ (codes " to " ++ (signed_decimal file.to ++ 10 ∷ x)))))))))

parts : (s w1 d1 w2 d2 w3 d3 w4 d4 w5 d5 e x : List ℕ)
    → ((s ++ w1 ++ d1 ++ w2 ++ d2 ++ w3 ++ d3 ++ (w4 ++ d4 ++ w5 ++ d5)) ++ e) ++ x
    ≡ s ++ (w1 ++ (d1 ++ (w2 ++ (d2 ++ (w3 ++ (d3 ++ (w4 ++ (d4 ++ (w5 ++ (d5 ++ (e ++ x)))))))))))
parts s w1 d1 w2 d2 w3 d3 w4 d4 w5 d5 e x = simp append_assoc

file_parts : (file : FileLine) (x : List ℕ) → line (file_text file) ++ x ≡ space_name file.space ++ behind_space file x
file_parts file x = parts (space_name file.space) (codes " ") (decimal file.number.0) (codes " born ") (decimal file.born.0) (codes " points ")
    (decimal file.points) (codes " from ") (signed_decimal file.from) (codes " to ") (signed_decimal file.to) (10 ∷ []) x

space_word : (space : Space) → IsWord (space_name space)
space_word Sequence = (omega arith, (omega arith, (omega arith, (omega arith, (omega arith, (omega arith, (omega arith, (omega arith, tt))))))))
space_word Unsequence = (omega arith, (omega arith, (omega arith, (omega arith, (omega arith, (omega arith, (omega arith, (omega arith, (omega arith, (omega arith, tt))))))))))

same_space_name : (a b : Space) → space_name a ≡ space_name b → a ≡ b
same_space_name Sequence Sequence e = refl
same_space_name Sequence Unsequence e = let first : 115 ≡ 117 = ap (λ l. get_or l 0 0) e in absurd (omega (arith, first))
same_space_name Unsequence Sequence e = let first : 117 ≡ 115 = ap (λ l. get_or l 0 0) e in absurd (omega (arith, first))
same_space_name Unsequence Unsequence e = refl

blank : Stops (32 ∷ [])
blank = (omega arith, λ h. omega (arith, h))

end_of_line : Stops (10 ∷ [])
end_of_line = (omega arith, λ h. omega (arith, h))

file_of : Space → FileNumber → Stamp → ℕ → ℤ → ℤ → FileLine
file_of space number born points from to = record { space = space; number = number; born = born; points = points; from = from; to = to }

same_fields : (a b : FileLine) → a.space ≡ b.space → a.number.0 ≡ b.number.0 → a.born.0 ≡ b.born.0 → a.points ≡ b.points → a.from ≡ b.from → a.to ≡ b.to → a ≡ b
unfolding file_of
same_fields a b space number born points from to =
    let number_too : a.number ≡ b.number = ap (λ (n : ℕ). record { 0 = n }) number in
    let born_too : a.born ≡ b.born = ap (λ (n : ℕ). record { 0 = n }) born in
    let made : file_of a.space a.number a.born a.points a.from a.to ≡ file_of b.space b.number b.born b.points b.from b.to = cc in
    made

-- the line of a file, and what follows it
pub same_file : (a b : FileLine) (x y : List ℕ) → IsFileInRange a → IsFileInRange b → line (file_text a) ++ x ≡ line (file_text b) ++ y → (a ≡ b) × (x ≡ y)
same_file a b x y ra rb e =
    let s = same_word (space_name a.space) (space_name b.space) (behind_space a x) (behind_space b y) (space_word a.space) (space_word b.space)
    blank blank (sym (file_parts a x) ∙ e ∙ file_parts b y) in
    let n = after_decimal a.number.0 b.number.0 _ _ ra.number rb.number blank blank (append_cancel_left (codes " ") _ _ s.1) in
    let m = after_decimal a.born.0 b.born.0 _ _ ra.born rb.born blank blank (append_cancel_left (codes " born ") _ _ n.1) in
    let p = after_decimal a.points b.points _ _ ra.points rb.points blank blank (append_cancel_left (codes " points ") _ _ m.1) in
    let f = after_signed a.from b.from _ _ (fits_wide a.from ra.from) (fits_wide b.from rb.from) blank blank (append_cancel_left (codes " from ") _ _ p.1) in
    let t = after_signed a.to b.to (10 ∷ x) (10 ∷ y) (fits_wide a.to ra.to) (fits_wide b.to rb.to) end_of_line end_of_line (append_cancel_left (codes " to ") _ _ f.1) in
    (same_fields a b (same_space_name a.space b.space s.0) n.0 m.0 p.0 f.0 t.0, tail_of 10 10 x y t.1)

-- no file of this space begins the list
abbrev pub Lacks : Space → List ℕ → Type 0
Lacks space x = (rest : List ℕ) → x ≡ space_name space ++ rest → ⊥

-- files of one space, all with numbers in their ranges
abbrev AreFiles : Space → List FileLine → Type 0
AreFiles space files = AllByRecursion (λ file. (file.space ≡ space) × IsFileInRange file) files

first_file : (file : FileLine) (files : List FileLine) (x : List ℕ) → file_lines (file ∷ files) ++ x ≡ line (file_text file) ++ (file_lines files ++ x)
first_file file files x = append_assoc (line (file_text file)) (file_lines files) x

-- the lines of the files of a space, and what follows them
pub same_files : (space : Space) (a b : List FileLine) (x y : List ℕ) → AreFiles space a → AreFiles space b → Lacks space x → Lacks space y
    → file_lines a ++ x ≡ file_lines b ++ y → (a ≡ b) × (x ≡ y)
same_files space [] [] x y fa fb lx ly e = (refl, e)
same_files space [] (g ∷ b) x y fa fb lx ly e =
    absurd (lx (behind_space g (file_lines b ++ y)) (e ∙ first_file g b y ∙ file_parts g (file_lines b ++ y) ∙ ap (λ s. space_name s ++ behind_space g (file_lines b ++ y)) fb.0.0))
same_files space (f ∷ a) [] x y fa fb lx ly e =
    absurd (ly (behind_space f (file_lines a ++ x)) (sym e ∙ first_file f a x ∙ file_parts f (file_lines a ++ x) ∙ ap (λ s. space_name s ++ behind_space f (file_lines a ++ x)) fa.0.0))
same_files space (f ∷ a) (g ∷ b) x y fa fb lx ly e =
    let first = same_file f g (file_lines a ++ x) (file_lines b ++ y) fa.0.1 fb.0.1 (sym (first_file f a x) ∙ e ∙ first_file g b y) in
    let others = same_files space a b x y fa.1 fb.1 lx ly first.1 in
    let head : f ≡ g = first.0 in
    let tail : a ≡ b = others.0 in
    (cc, others.1)

same_space-true : (a b : Space) → same_space a b ≡ true → a ≡ b
same_space-true Sequence Sequence e = refl
same_space-true Sequence Unsequence e = absurd (false≢true e)
same_space-true Unsequence Sequence e = absurd (false≢true e)
same_space-true Unsequence Unsequence e = refl

chosen : (space : Space) (file : FileLine) (files : List FileLine) (b : Bool) → same_space file.space space ≡ b → IsFileInRange file → AreFiles space files → AreFiles space (cond b (file ∷ files) files)
chosen space file files true e range others = ((same_space-true file.space space e, range), others)
chosen space file files false e range others = others

-- the files of a space are of that space
pub AreFiles-of : (space : Space) (files : List FileLine) → AllByRecursion IsFileInRange files → AreFiles space (files_in_space space files)
AreFiles-of space [] range = tt
AreFiles-of space (file ∷ files) range = chosen space file (files_in_space space files) (same_space file.space space) refl range.0 (AreFiles-of space files range.1)

-- what stands behind the files
abbrev behind_files : Listing → List ℕ
behind_files listing = codes "frozen " ++ (decimal listing.frozen ++ (10 ∷ (codes "working " ++ (decimal (slice_index listing.working 0) ++ (codes " "
    ++ (decimal (slice_index listing.working 1) ++ (10 ∷ (codes "marks " ++ (decimal listing.marks ++ 10 ∷ [])))))))))

ends : (s u w1 d1 w2 d2 w3 d3 w4 d4 e : List ℕ)
    → (s ++ u ++ ((w1 ++ d1) ++ e)) ++ ((w2 ++ d2 ++ w3 ++ d3) ++ e) ++ ((w4 ++ d4) ++ e)
    ≡ s ++ (u ++ (w1 ++ (d1 ++ (e ++ (w2 ++ (d2 ++ (w3 ++ (d3 ++ (e ++ (w4 ++ (d4 ++ e)))))))))))
ends s u w1 d1 w2 d2 w3 d3 w4 d4 e = simp append_assoc

listing_parts : (listing : Listing) → listing_text listing ≡ file_lines (files_in_space Sequence listing.files) ++ (file_lines (files_in_space Unsequence listing.files) ++ behind_files listing)
listing_parts l = ends (file_lines (files_in_space Sequence l.files)) (file_lines (files_in_space Unsequence l.files)) (codes "frozen ") (decimal l.frozen) (codes "working ")
    (decimal (slice_index l.working 0)) (codes " ") (decimal (slice_index l.working 1)) (codes "marks ") (decimal l.marks) (10 ∷ [])

lacks_frozen : (space : Space) (l : Listing) → Lacks space (behind_files l)
lacks_frozen Sequence l rest e = let first : 102 ≡ 115 = ap (λ l. get_or l 0 0) e in omega (arith, first)
lacks_frozen Unsequence l rest e = let first : 102 ≡ 117 = ap (λ l. get_or l 0 0) e in omega (arith, first)

lacks_sequence : (files : List FileLine) (l : Listing) → AreFiles Unsequence files → Lacks Sequence (file_lines files ++ behind_files l)
lacks_sequence [] l all rest e = lacks_frozen Sequence l rest e
lacks_sequence (f ∷ files) l all rest e =
    let begins = sym (ap (λ s. space_name s ++ behind_space f (file_lines files ++ behind_files l)) all.0.0) ∙ sym (file_parts f (file_lines files ++ behind_files l)) ∙ sym (first_file f files (behind_files l)) ∙ e in
    let first : 117 ≡ 115 = ap (λ l. get_or l 0 0) begins in
    omega (arith, first)

two_of : (xs ys : List ℕ) → length xs ≡ 2 → length ys ≡ 2 → slice_index xs 0 ≡ slice_index ys 0 → slice_index xs 1 ≡ slice_index ys 1 → xs ≡ ys
two_of [] ys lx ly e f = absurd (omega (arith, lx))
two_of (a ∷ []) ys lx ly e f = absurd (omega (arith, lx))
two_of (a ∷ b ∷ c ∷ xs) ys lx ly e f = absurd (omega (arith, lx))
two_of (a ∷ b ∷ []) [] lx ly e f = absurd (omega (arith, ly))
two_of (a ∷ b ∷ []) (c ∷ []) lx ly e f = absurd (omega (arith, ly))
two_of (a ∷ b ∷ []) (c ∷ d ∷ []) lx ly e f = let g : a ≡ c = e in let h : b ≡ d = f in cc
two_of (a ∷ b ∷ []) (c ∷ d ∷ g ∷ ys) lx ly e f = absurd (omega (arith, ly))

first_small : (xs : List ℕ) → AllByRecursion (λ points. points < 2 ^ 64) xs → slice_index xs 0 < 2 ^ 64
first_small [] all = omega arith
first_small (x ∷ xs) all = all.0

second_small : (xs : List ℕ) → AllByRecursion (λ points. points < 2 ^ 64) xs → slice_index xs 1 < 2 ^ 64
second_small [] all = omega arith
second_small (x ∷ xs) all = first_small xs all.1

same_shown : (a b : Listing) → files_in_space Sequence a.files ≡ files_in_space Sequence b.files → files_in_space Unsequence a.files ≡ files_in_space Unsequence b.files
    → a.frozen ≡ b.frozen → a.working ≡ b.working → a.marks ≡ b.marks → shown_listing a ≡ shown_listing b
same_shown a b s u f w m = cc

pub same_listing : (a b : Listing) → IsListingInRange a → IsListingInRange b → listing_text a ≡ listing_text b → shown_listing a ≡ shown_listing b
same_listing a b ra rb e =
    let ua = AreFiles-of Unsequence a.files ra.files in
    let ub = AreFiles-of Unsequence b.files rb.files in
    let s = same_files Sequence (files_in_space Sequence a.files) (files_in_space Sequence b.files) (file_lines (files_in_space Unsequence a.files) ++ behind_files a)
    (file_lines (files_in_space Unsequence b.files) ++ behind_files b) (AreFiles-of Sequence a.files ra.files) (AreFiles-of Sequence b.files rb.files)
    (lacks_sequence (files_in_space Unsequence a.files) a ua) (lacks_sequence (files_in_space Unsequence b.files) b ub) (sym (listing_parts a) ∙ e ∙ listing_parts b) in
    let u = same_files Unsequence (files_in_space Unsequence a.files) (files_in_space Unsequence b.files) (behind_files a) (behind_files b) ua ub (lacks_frozen Unsequence a) (lacks_frozen Unsequence b) s.1 in
    let f = after_decimal a.frozen b.frozen _ _ ra.frozen rb.frozen end_of_line end_of_line (append_cancel_left (codes "frozen ") _ _ u.1) in
    let first = after_decimal (slice_index a.working 0) (slice_index b.working 0) _ _ (first_small a.working ra.working) (first_small b.working rb.working) blank blank
    (append_cancel_left (codes "working ") _ _ (tail_of 10 10 _ _ f.1)) in
    let second = after_decimal (slice_index a.working 1) (slice_index b.working 1) _ _ (second_small a.working ra.working) (second_small b.working rb.working) end_of_line end_of_line
    (append_cancel_left (codes " ") _ _ first.1) in
    let m = after_decimal a.marks b.marks (10 ∷ []) (10 ∷ []) ra.marks rb.marks end_of_line end_of_line (append_cancel_left (codes "marks ") _ _ (tail_of 10 10 _ _ second.1)) in
    same_shown a b s.0 u.0 f.0 (two_of a.working b.working ra.two rb.two first.0 second.0) m.0

begins_file : (file : FileLine) (x : List ℕ) → Begins 32 (line (file_text file) ++ x)
begins_file file x = record { word = space_name file.space; rest = _; letters = space_word file.space; is = file_parts file x }

begins_files : (files : List FileLine) (x : List ℕ) → Begins 32 x → Begins 32 (file_lines files ++ x)
begins_files [] x begins = begins
begins_files (file ∷ files) x begins =
    let first = begins_file file (file_lines files ++ x) in
    record { word = first.word; rest = first.rest; letters = first.letters; is = first_file file files x ∙ first.is }

-- a listing begins with a word and a blank
pub listing_begins : (listing : Listing) → Begins 32 (listing_text listing)
listing_begins listing =
    let frozen : Begins 32 (behind_files listing) = record { word = codes "frozen"; rest = _; letters = (omega arith, (omega arith, (omega arith, (omega arith, (omega arith, (omega arith, tt)))))); is = refl } in
    let all = begins_files (files_in_space Sequence listing.files) (file_lines (files_in_space Unsequence listing.files) ++ behind_files listing)
    (begins_files (files_in_space Unsequence listing.files) (behind_files listing) frozen) in
    record { word = all.word; rest = all.rest; letters = all.letters; is = listing_parts listing ∙ all.is }

chosen_again : (space : Space) (file : FileLine) (files : List FileLine) (b : Bool) → same_space file.space space ≡ b → files_in_space space (cond b (file ∷ files) files) ≡ cond b (file ∷ files_in_space space files) (files_in_space space files)
chosen_again space file files true e = ap (λ t. cond t (file ∷ files_in_space space files) (files_in_space space files)) e
chosen_again space file files false e = refl

again : (space : Space) (files : List FileLine) → files_in_space space (files_in_space space files) ≡ files_in_space space files
again space [] = refl
again space (file ∷ files) =
    chosen_again space file (files_in_space space files) (same_space file.space space) refl
    ∙ ap (λ l. cond (same_space file.space space) (file ∷ l) l) (again space files)

-- no space is both
apart_spaces : (space : Space) (file : FileLine) (files : List FileLine) → files_in_space Unsequence files ≡ [] → files_in_space Unsequence (cond (same_space space Sequence) (record file { space = space } ∷ files) files) ≡ []
apart_spaces Sequence file files e = e
apart_spaces Unsequence file files e = e

others_gone : (files : List FileLine) → files_in_space Unsequence (files_in_space Sequence files) ≡ []
others_gone [] = refl
others_gone (file ∷ files) = apart_spaces file.space file (files_in_space Sequence files) (others_gone files)

apart_spaces-too : (space : Space) (file : FileLine) (files : List FileLine) → files_in_space Sequence files ≡ [] → files_in_space Sequence (cond (same_space space Unsequence) (record file { space = space } ∷ files) files) ≡ []
apart_spaces-too Sequence file files e = e
apart_spaces-too Unsequence file files e = e

others_gone-too : (files : List FileLine) → files_in_space Sequence (files_in_space Unsequence files) ≡ []
others_gone-too [] = refl
others_gone-too (file ∷ files) = apart_spaces-too file.space file (files_in_space Unsequence files) (others_gone-too files)

-- the text of a listing with these files
abbrev listing_with : List FileLine → List FileLine → Listing → List ℕ
listing_with s u listing = file_lines s ++ file_lines u ++ line (codes "frozen " ++ decimal listing.frozen) ++ line (working_text listing.working)
    ++ line (codes "marks " ++ decimal listing.marks)

pub listing_shown : (listing : Listing) → listing_text (shown_listing listing) ≡ listing_text listing
listing_shown listing =
    let s = files_in_space Sequence listing.files in
    let u = files_in_space Unsequence listing.files in
    let first : files_in_space Sequence (s ++ u) ≡ s = filter-append _ s u ∙ ap (λ l. l ++ files_in_space Sequence u) (again Sequence listing.files) ∙ ap (λ l. s ++ l) (others_gone-too listing.files) ∙ append-nil s in
    let second : files_in_space Unsequence (s ++ u) ≡ u = filter-append _ s u ∙ ap (λ l. l ++ files_in_space Unsequence u) (others_gone listing.files) ∙ again Unsequence listing.files in
    ap (λ l. listing_with l (files_in_space Unsequence (s ++ u)) listing) first ∙ ap (λ l. listing_with s l listing) second
