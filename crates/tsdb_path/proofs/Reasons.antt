-- Of the reasons for a refusal one holds at most, and those of one step are those of the whole.
use Rattle.std.proofs.Common.{◌≡◌, ◌≢◌, ◌≤◌, ◌<◌, ◌+◌, ◌++◌, ◌∷◌, ℕ, List, [], Result, Ok, Err, length, take, get_or, refl, sym, ap, subst, ◌∙◌, arith, inl, inr, length-append, append_assoc}
use Rattle.std.specs.Prelude.{All, IfOk, IfErr, sum_by, codes}
use Rattle.std.proofs.Math.ListN.{get_or-append}
use Rattle.std.proofs.Math.Seq.{take-append_seam, get_or-append_seam}
use Rattle.std.proofs.lemmas.List.Elements.{All-get_or, All-push}
use Rattle.tsdb_path.specs.declared.fault.PathFault.{PathFault}
use Rattle.tsdb_path.specs.declared.fault.PathFault.TheVariants.{Empty, NotRoot, BadNode, TooLong, Memory}
use Rattle.tsdb_path.specs.Nodes.{dot, parts, node_count, child_of, IsNode, IsName, IsRooted, IsPath}
use Rattle.tsdb_path.specs.Refusals.{HasFittingLength, IsNotRooted, StandsAfterNodes, HasBadNodeAt, HasNodeTooManyAt, RefusesPath, IsNoNode, RefusesName, IsFull, RefusesChild}
use Rattle.tsdb_path.specs.Steps.{RefusesLength}
use Rattle.tsdb_path.proofs.Bytes.{IsNode-dotless}
use Rattle.tsdb_path.proofs.Parts.{HasGoodParts, parts_from_path, parts-child, rooted-append, IsPath-child, length_by_parts}

-- a path has 1 to 255 bytes
pub path_fits : (bytes : List ℕ) → IsPath bytes → HasFittingLength bytes
path_fits [] path = absurd (cc_root (parts_from_path [] path).rooted)
  where
    cc_root : [] ≡ codes "root" → ⊥
    cc_root e = cc
path_fits (b ∷ bytes) path = record { some = omega arith; short = (parts_from_path (b ∷ bytes) path).short }

-- no bytes are refused as that alone, and too many likewise
by_none : (bytes : List ℕ) (fault : PathFault) → bytes ≡ [] → RefusesPath bytes fault → fault ≡ Empty
by_none bytes Empty none h = refl
by_none bytes NotRoot none h = absurd (omega (arith, ap length none, h.fits.some))
by_none bytes (BadNode at) none h = absurd (omega (arith, ap length none, h.stands.fits.some))
by_none bytes (TooLong at) none h = elim h [ inl long ↦ absurd (omega (arith, ap length none, long.long)) | inr many ↦ absurd (omega (arith, ap length none, many.stands.fits.some)) ]
by_none bytes Memory none h = absurd (omega (arith, ap length none, (path_fits bytes h).some))

by_length : (bytes : List ℕ) (fault : PathFault) → 255 < length bytes → RefusesPath bytes fault → fault ≡ TooLong 255
by_length bytes Empty long h = absurd (omega (arith, ap length h, long))
by_length bytes NotRoot long h = absurd (omega (arith, h.fits.short, long))
by_length bytes (BadNode at) long h = absurd (omega (arith, h.stands.fits.short, long))
by_length bytes (TooLong at) long h = elim h [ inl l ↦ ap TooLong l.place | inr many ↦ absurd (omega (arith, many.stands.fits.short, long)) ]
by_length bytes Memory long h = absurd (omega (arith, (path_fits bytes h).short, long))

by_root : (bytes : List ℕ) (fault : PathFault) → IsNotRooted bytes → RefusesPath bytes fault → fault ≡ NotRoot
by_root bytes Empty un h = absurd (omega (arith, ap length h, un.fits.some))
by_root bytes NotRoot un h = refl
by_root bytes (BadNode at) un h = absurd (un.unrooted h.stands.rooted)
by_root bytes (TooLong at) un h = elim h [ inl l ↦ absurd (omega (arith, un.fits.short, l.long)) | inr many ↦ absurd (un.unrooted many.stands.rooted) ]
by_root bytes Memory un h = absurd (un.unrooted (parts_from_path bytes h).rooted)

-- two fronts of one length are one
same_front : (ps f g : List (List ℕ)) (m n : List ℕ) (b c : List (List ℕ)) → ps ≡ f ++ m ∷ b → ps ≡ g ++ n ∷ c → length f ≡ length g → f ≡ g
same_front ps f g m n b c p q same =
    sym (take-append_seam f (m ∷ b)) ∙ ap (take (length f)) (sym p) ∙ ap (λ k. take k ps) same ∙ ap (take (length g)) q ∙ take-append_seam g (n ∷ c)

-- the parts before are nodes
good_below : (ps f : List (List ℕ)) (rest : List (List ℕ)) (i : ℕ) → ps ≡ f ++ rest → All IsNode f → i < length f → IsNode (get_or ps i [])
good_below ps f rest i p good below =
    subst IsNode (sym (ap (λ l. get_or l i []) p ∙ get_or-append f rest [] i below)) (All-get_or IsNode f i [] below good)

-- the part behind them is the one at their number
next_is : (ps f : List (List ℕ)) (n : List ℕ) (b : List (List ℕ)) → ps ≡ f ++ n ∷ b → get_or ps (length f) [] ≡ n
next_is ps f n b p = ap (λ l. get_or l (length f) []) p ∙ get_or-append_seam f n b []

-- a part that is no node stands behind all fronts of nodes
no_node_below : (ps f g : List (List ℕ)) (n : List ℕ) (b rest : List (List ℕ)) → ps ≡ f ++ n ∷ b → ¬ IsNode n → ps ≡ g ++ rest → All IsNode g → length f < length g → ⊥
no_node_below ps f g n b rest p bad q good below =
    bad (subst IsNode (next_is ps f n b p) (good_below ps g rest (length f) q good below))

same_place : (bytes : List ℕ) (f g : List (List ℕ)) (m n : List ℕ) (i j : ℕ) → StandsAfterNodes f m bytes i → StandsAfterNodes g n bytes j → length f ≡ length g → i ≡ j
same_place bytes f g m n i j s t same =
    s.place ∙ ap (sum_by (λ part. length part + 1)) (same_front (parts bytes) f g m n s.back t.back s.parted t.parted same) ∙ sym t.place

-- a part that is no node, with 16 nodes before it at most, stands before a 17th node
not_both : (bytes : List ℕ) (i j : ℕ) → HasBadNodeAt bytes i → HasNodeTooManyAt bytes j → ⊥
not_both bytes i j bad many =
    let s = bad.stands in
    let t = many.stands in
    let g : List (List ℕ) = many.prefix ++ many.next ∷ [] in
    no_node_below (parts bytes) bad.prefix g bad.next s.back t.back s.parted bad.bad
    (t.parted ∙ sym (append_assoc many.prefix (many.next ∷ []) t.back))
    (All-push IsNode many.prefix many.next t.good many.good)
    (omega (arith, bad.few, many.full, length-append many.prefix (many.next ∷ [])))

by_bad : (bytes : List ℕ) (i : ℕ) (fault : PathFault) → HasBadNodeAt bytes i → RefusesPath bytes fault → fault ≡ BadNode i
by_bad bytes i Empty bad h = absurd (omega (arith, ap length h, bad.stands.fits.some))
by_bad bytes i NotRoot bad h = absurd (h.unrooted bad.stands.rooted)
by_bad bytes i (BadNode j) bad h =
    let s = bad.stands in
    let t = h.stands in
    let below : ¬ (length bad.prefix < length h.prefix) = no_node_below (parts bytes) bad.prefix h.prefix bad.next s.back (h.next ∷ t.back) s.parted bad.bad t.parted t.good in
    let above : ¬ (length h.prefix < length bad.prefix) = no_node_below (parts bytes) h.prefix bad.prefix h.next t.back (bad.next ∷ s.back) t.parted h.bad s.parted s.good in
    ap BadNode (same_place bytes h.prefix bad.prefix h.next bad.next j i t s (omega (arith, below, above)))
by_bad bytes i (TooLong j) bad h = elim h [ inl l ↦ absurd (omega (arith, bad.stands.fits.short, l.long)) | inr many ↦ absurd (not_both bytes i j bad many) ]
by_bad bytes i Memory bad h =
    let s = bad.stands in
    let good : All IsNode (parts bytes) = (parts_from_path bytes h).good in
    absurd (bad.bad (subst IsNode (next_is (parts bytes) bad.prefix bad.next s.back s.parted) (All-get_or IsNode (parts bytes) (length bad.prefix) [] (omega (arith, ap length s.parted, length-append bad.prefix (bad.next ∷ s.back))) good)))

by_many : (bytes : List ℕ) (i : ℕ) (fault : PathFault) → HasNodeTooManyAt bytes i → RefusesPath bytes fault → fault ≡ TooLong i
by_many bytes i Empty many h = absurd (omega (arith, ap length h, many.stands.fits.some))
by_many bytes i NotRoot many h = absurd (h.unrooted many.stands.rooted)
by_many bytes i (BadNode j) many h = absurd (not_both bytes j i h many)
by_many bytes i (TooLong j) many h = elim h [
  | inl l ↦ absurd (omega (arith, many.stands.fits.short, l.long))
  | inr other ↦ ap TooLong (same_place bytes other.prefix many.prefix other.next many.next j i other.stands many.stands (other.full ∙ sym many.full))
]
by_many bytes i Memory many h =
    let s = many.stands in
    absurd (omega (arith, (parts_from_path bytes h).few, ap length s.parted, length-append many.prefix (many.next ∷ s.back), many.full))

by_path : (bytes : List ℕ) (fault : PathFault) → RefusesPath bytes fault → IsPath bytes → Memory ≡ fault
by_path bytes Empty h path = by_none bytes Memory h path
by_path bytes NotRoot h path = by_root bytes Memory h path
by_path bytes (BadNode i) h path = by_bad bytes i Memory h path
by_path bytes (TooLong i) h path = elim h [
  | inl l ↦ absurd (omega (arith, (path_fits bytes path).short, l.long))
  | inr many ↦ by_many bytes i Memory many path
]
by_path bytes Memory h path = refl

-- of the reasons why bytes are no path one holds at most
pub one_path_reason : (bytes : List ℕ) (fault other : PathFault) → RefusesPath bytes fault → RefusesPath bytes other → fault ≡ other
one_path_reason bytes Empty other h k = sym (by_none bytes other h k)
one_path_reason bytes NotRoot other h k = sym (by_root bytes other h k)
one_path_reason bytes (BadNode i) other h k = sym (by_bad bytes i other h k)
one_path_reason bytes (TooLong i) other h k = elim h [
  | inl l ↦ ap TooLong l.place ∙ sym (by_length bytes other l.long k)
  | inr many ↦ sym (by_many bytes i other many k)
]
one_path_reason bytes Memory other h k = by_path bytes other k h

name_by_none : (bytes : List ℕ) (fault : PathFault) → bytes ≡ [] → RefusesName bytes fault → fault ≡ Empty
name_by_none bytes Empty none h = refl
name_by_none bytes NotRoot none h = absurd h
name_by_none bytes (BadNode i) none h = absurd (omega (arith, ap length none, h.fits.some))
name_by_none bytes (TooLong i) none h = absurd (omega (arith, ap length none, h.long))
name_by_none bytes Memory none h = absurd (omega (arith, ap length none, h.node.some))

name_by_length : (bytes : List ℕ) (fault : PathFault) → 255 < length bytes → RefusesName bytes fault → fault ≡ TooLong 255
name_by_length bytes Empty long h = absurd (omega (arith, ap length h, long))
name_by_length bytes NotRoot long h = absurd h
name_by_length bytes (BadNode i) long h = absurd (omega (arith, h.fits.short, long))
name_by_length bytes (TooLong i) long h = ap TooLong h.place
name_by_length bytes Memory long h = absurd (omega (arith, h.short, long))

name_by_node : (bytes : List ℕ) (i : ℕ) (fault : PathFault) → IsNoNode bytes i → RefusesName bytes fault → fault ≡ BadNode i
name_by_node bytes i Empty bad h = absurd (omega (arith, ap length h, bad.fits.some))
name_by_node bytes i NotRoot bad h = absurd h
name_by_node bytes i (BadNode j) bad h = ap BadNode (h.place ∙ sym bad.place)
name_by_node bytes i (TooLong j) bad h = absurd (omega (arith, bad.fits.short, h.long))
name_by_node bytes i Memory bad h = absurd (bad.bad h.node)

name_by_name : (bytes : List ℕ) (fault : PathFault) → IsName bytes → RefusesName bytes fault → fault ≡ Memory
name_by_name bytes Empty name h = absurd (omega (arith, ap length h, name.node.some))
name_by_name bytes NotRoot name h = absurd h
name_by_name bytes (BadNode i) name h = absurd (h.bad name.node)
name_by_name bytes (TooLong i) name h = absurd (omega (arith, name.short, h.long))
name_by_name bytes Memory name h = refl

-- behind 16 nodes a name is the 17th
too_many_child : (path name : List ℕ) (i : ℕ) → IsPath path → IsNode name → IsFull path name i → HasNodeTooManyAt (child_of path name) i
too_many_child path name i good node full =
    let h : HasGoodParts path = parts_from_path path good in
    let e : parts (child_of path name) ≡ parts path ++ name ∷ [] = parts-child path name (IsNode-dotless name node) in
    record {
      prefix = parts path;
      next = name;
      stands = record {
        fits = record { some = omega (arith, length-append path (dot ∷ name)); short = full.short };
        rooted = subst IsRooted (sym e) (rooted-append (parts path) (name ∷ []) h.rooted);
        back = [];
        parted = e;
        good = h.good;
        place = full.place ∙ sym (length_by_parts path);
      };
      good = node;
      full = full.full;
    }

pub child_full : (path name : List ℕ) → length path + 1 + length name ≤ 255 → node_count path ≡ 16 → RefusesChild path name (TooLong (length path + 1))
child_full path name short full = inr (record { short = omega (arith, length-append path (dot ∷ name), short); full = full; place = refl })

pub child_fits : (path name : List ℕ) → IsPath path → IsName name → length path + 1 + length name ≤ 255 → node_count path ≢ 16 → IsPath (child_of path name)
child_fits path name good named short other =
    IsPath-child path name good named.node (omega (arith, (parts_from_path path good).few, other)) (omega (arith, length-append path (dot ∷ name), short))

-- a path refuses a child as the joined bytes are refused as a path
pub child_as_path : (path name : List ℕ) (fault : PathFault) → IsPath path → IsNode name → RefusesChild path name fault → RefusesPath (child_of path name) fault
child_as_path path name Empty good node h = absurd h
child_as_path path name NotRoot good node h = absurd h
child_as_path path name (BadNode i) good node h = absurd h
child_as_path path name (TooLong i) good node h = elim h [ inl l ↦ inl l | inr full ↦ inr (too_many_child path name i good node full) ]
child_as_path path name Memory good node h = h

-- of the reasons why a path takes no child one holds at most
pub one_child_reason : (path name : List ℕ) → IsPath path → IsNode name → (fault other : PathFault) → RefusesChild path name fault → RefusesChild path name other → fault ≡ other
one_child_reason path name good node fault other h k =
    one_path_reason (child_of path name) fault other (child_as_path path name fault good node h) (child_as_path path name other good node k)

module _ {T : Type 0} (R : PathFault → Type 0) (one : (fault other : PathFault) → R fault → R other → fault ≡ other) where
  -- where out of memory is the reason, no other is
  pub memory_alone : (r : Result T PathFault) → IfErr r R → R Memory → IfErr r (λ fault. fault ≡ Memory)
  memory_alone (Ok x) h good = tt
  memory_alone (Err e) h good = one e Memory h good

  -- each reason but out of memory is the answer where it holds
  pub reason_is_answer : (r : Result T PathFault) → IfOk r (λ _. R Memory) → IfErr r R → (fault : PathFault) → R fault → fault ≢ Memory → r ≡ Err fault
  reason_is_answer (Ok x) good h fault is other = absurd (other (one fault Memory is good))
  reason_is_answer (Err e) good h fault is other = ap Err (one e fault h is)
