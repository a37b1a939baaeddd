-- The series of all devices as one world: what is found there, and what a write to one series leaves.
use Rattle.std.proofs.Common.{◌≡◌, ◌≢◌, ℕ, Bool, true, false, cond, List, [], ◌∷◌, ◌++◌, map, Option, None, Some, is_some, refl, sym, ap, ◌∙◌, subst, Ordering}
use Rattle.std.specs.Prelude.{All, IfSome, IsSome}
use Rattle.std.specs.List.{flat_map, AllByRecursion}
use Rattle.std.specs.List.Sorted.{IsStrictlySortedBy}
use Rattle.std.specs.Ordering.{nat_cmp, is_eq, eq_by_cmp, ordering_then, match_ordering}
use Rattle.std.specs.Cmp.{eq_by_cmp_equiv, nat_cmp_total}
use Rattle.std.specs.Cmp.Lexicographic.{slice_cmp, nat_list_cmp_total}
use Rattle.std.specs.FinMap.{get, insert, remove, from_entries, get-from_entries, get-insert, get-remove, same_map, slice_cmp-IsAntisymmetric, nat_cmp-IsAntisymmetric}
use Rattle.std.specs.FinMap.Entries.{find}
use Rattle.std.specs.Map.{lookup, set_value, remove_entry, keys_of, values_of}
use Rattle.std.specs.BTreeMap.{BTreeMap, is_at, insert_entry}
use Rattle.std.specs.BTreeMap as tree
use Rattle.std.specs.declared.cmp.Ordering.TheVariants.{Less, Equal, Greater}
use Rattle.std.proofs.lemmas.Bool.{false≢true}
use Rattle.std.proofs.lemmas.List.Elements.{recursion_from_All, All-from_recursion}
use Rattle.std.proofs.lemmas.Map.Views.{tells_apart, All-values-set_value, All-values-insert_entry, All-keys-insert_entry, All-map-remove_entry, IfSome-lookup_from_All}
use Rattle.std.proofs.lemmas.Map.Lookups.{exact_bytes}
use Rattle.tsdb_model.specs.World.{change, change_series, Series, World}
use Rattle.tsdb_map.specs.Model.{AreOrderedDevices, IsDotless, device_entries, world_of}
use Rattle.tsdb_path.specs.Nodes.{child_of, device_of, dot, IsName}
use Rattle.tsdb_path.proofs.Bytes.{IsNode-dotless}
use Rattle.tsdb_path.proofs.Parts.{device_of-child}

abbrev pub Names : Type 0
Names = BTreeMap (List ℕ) Series

abbrev pub Devices : Type 0
Devices = List (List ℕ × Names)

abbrev pub path_cmp : List ℕ → List ℕ → Ordering
path_cmp = slice_cmp nat_cmp

abbrev same : List ℕ → List ℕ → Bool
same p q = eq_by_cmp path_cmp p q

-- what is behind a device and a dot, where a path begins so
abbrev pub behind_byte : ℕ → List ℕ → Option (List ℕ)
behind_byte b [] = None
behind_byte b (c ∷ path) = cond (is_eq (nat_cmp c b)) (Some path) None

abbrev pub further : Option (List ℕ) → (List ℕ → Option (List ℕ)) → Option (List ℕ)
further None f = None
further (Some path) f = f path

abbrev pub behind : List ℕ → List ℕ → Option (List ℕ)
behind [] path = behind_byte dot path
behind (b ∷ device) path = further (behind_byte b path) (behind device)

abbrev ties : Option (List ℕ) → List ℕ → Bool
ties None name = false
ties (Some rest) name = same rest name

step-same : (r s : Ordering) → is_eq (ordering_then r s) ≡ cond (is_eq r) (is_eq s) false
step-same Less s = refl
step-same Equal s = refl
step-same Greater s = refl

tied-cond : (b : Bool) (path name : List ℕ) → ties (cond b (Some path) None) name ≡ cond b (same path name) false
tied-cond true path name = refl
tied-cond false path name = refl

then-cond : (b : Bool) (path device name : List ℕ) → ties (further (cond b (Some path) None) (behind device)) name ≡ cond b (ties (behind device path) name) false
then-cond true path device name = refl
then-cond false path device name = refl

-- a path is the child of a device exactly where the name is behind the device and a dot
same-child : (path device name : List ℕ) → same path (child_of device name) ≡ ties (behind device path) name
same-child [] [] name = refl
same-child (c ∷ path) [] name = step-same (nat_cmp c dot) (path_cmp path name) ∙ sym (tied-cond (is_eq (nat_cmp c dot)) path name)
same-child [] (b ∷ device) name = refl
same-child (c ∷ path) (b ∷ device) name =
    step-same (nat_cmp c b) (path_cmp path (child_of device name))
    ∙ ap (λ t. cond (is_eq (nat_cmp c b)) t false) (same-child path device name)
    ∙ sym (then-cond (is_eq (nat_cmp c b)) path device name)

abbrev either : Option Series → Option Series → Option Series
either None y = y
either (Some x) y = Some x

either-none : (x : Option Series) → either x None ≡ x
either-none None = refl
either-none (Some x) = refl

either-cond : (b : Bool) (x : Series) (o p : Option Series) → cond b (Some x) (either o p) ≡ either (cond b (Some x) o) p
either-cond true x o p = refl
either-cond false x o p = refl

either-swap : (b : Bool) (x s : Option Series) (t : Series) → (b ≡ true → x ≡ None) → either x (cond b (Some t) s) ≡ cond b (Some t) (either x s)
either-swap true x s t none = ap (λ o. either o (Some t)) (none refl)
either-swap false x s t none = refl

abbrev looked : List (List ℕ × Series) → Option (List ℕ) → Option Series
looked es None = None
looked es (Some rest) = lookup (is_at (path_cmp rest)) es

looked-cond : (e : List ℕ × Series) (es : List (List ℕ × Series)) (o : Option (List ℕ)) → cond (ties o e.0) (Some e.1) (looked es o) ≡ looked (e ∷ es) o
looked-cond e es None = refl
looked-cond e es (Some rest) = refl

-- what is found among the series of a device is what its names have behind the device
pub find-device : (d : List ℕ) (es : List (List ℕ × Series)) (q : List ℕ)
    → find path_cmp q (map (λ e. (child_of d e.0, e.1)) es) ≡ looked es (behind d q)
find-device d [] q = elim (behind d q) as (λ o. None ≡ looked [] o) [ None ↦ refl | Some rest ↦ refl ]
find-device d (e ∷ es) q =
    ap (λ b. cond b (Some e.1) (find path_cmp q (map (λ e. (child_of d e.0, e.1)) es))) (same-child q d e.0)
    ∙ ap (cond (ties (behind d q) e.0) (Some e.1)) (find-device d es q) ∙ looked-cond e es (behind d q)

find-append : (xs ys : List (List ℕ × Series)) (q : List ℕ) → find path_cmp q (xs ++ ys) ≡ either (find path_cmp q xs) (find path_cmp q ys)
find-append [] ys q = refl
find-append (x ∷ xs) ys q =
    ap (cond (same q x.0) (Some x.1)) (find-append xs ys q) ∙ either-cond (same q x.0) x.1 (find path_cmp q xs) (find path_cmp q ys)

-- what the devices have at a path, device by device
abbrev pub seek : Devices → List ℕ → Option Series
seek [] q = None
seek (e ∷ es) q = either (looked e.1.entries (behind e.0 q)) (seek es q)

find-seek : (es : Devices) (q : List ℕ) → find path_cmp q (flat_map device_entries es) ≡ seek es q
find-seek [] q = refl
find-seek (e ∷ es) q =
    find-append (device_entries e) (flat_map device_entries es) q
    ∙ ap (λ o. either o (find path_cmp q (flat_map device_entries es))) (find-device e.0 e.1.entries q)
    ∙ ap (either (looked e.1.entries (behind e.0 q))) (find-seek es q)

get-seek : (es : Devices) (q : List ℕ) → get (world_of es) q ≡ seek es q
get-seek es q = get-from_entries nat_list_cmp_total (flat_map device_entries es) q ∙ find-seek es q

itself : (p : List ℕ) → same p p ≡ true
itself p = (eq_by_cmp_equiv nat_list_cmp_total).refl p

pub behind-child : (d n : List ℕ) → behind d (child_of d n) ≡ Some n
behind-child [] n = refl
behind-child (b ∷ d) n =
    ap (λ t. further (cond t (Some (child_of d n)) None) (behind d)) ((eq_by_cmp_equiv nat_cmp_total).refl b) ∙ behind-child d n

-- names without dots leave no doubt about the device
one_device : (d k n m : List ℕ) → IsDotless n → IsDotless m → child_of d n ≡ child_of k m → d ≡ k
one_device d k n m a b e = sym (device_of-child d n a) ∙ ap device_of e ∙ device_of-child k m b

not_same : (b : Bool) (p q : List ℕ) → p ≢ q → same p q ≡ b → b ≡ false
not_same true p q apart e = absurd (apart (tells_apart exact_bytes p q e))
not_same false p q apart e = refl

other_device : (d k n : List ℕ) → IsDotless n → d ≢ k → (es : List (List ℕ × Series)) → AllByRecursion IsDotless (keys_of es)
    → find path_cmp (child_of d n) (map (λ e. (child_of k e.0, e.1)) es) ≡ None
other_device d k n a apart [] h = refl
other_device d k n a apart (e ∷ es) h =
    ap (λ b. cond b (Some e.1) (find path_cmp (child_of d n) (map (λ e. (child_of k e.0, e.1)) es)))
    (not_same _ (child_of d n) (child_of k e.0) (λ same. apart (one_device d k n e.0 a h.0 same)) refl)
    ∙ other_device d k n a apart es h.1

abbrev AllDotless : Devices → Type 0
AllDotless es = AllByRecursion (λ names. All IsDotless (tree.keys names)) (values_of es)

nothing_there : (d n : List ℕ) (e : List ℕ × Names) → IsDotless n → d ≢ e.0 → All IsDotless (tree.keys e.1)
    → looked e.1.entries (behind e.0 (child_of d n)) ≡ None
nothing_there d n e a apart h =
    sym (find-device e.0 e.1.entries (child_of d n)) ∙ other_device d e.0 n a apart e.1.entries (recursion_from_All IsDotless _ h)

apart_by_test : (d k : List ℕ) → is_at (path_cmp d) k ≡ false → d ≢ k
apart_by_test d k e same_one = false≢true (sym e ∙ ap (λ k. is_at (path_cmp d) k) (sym same_one) ∙ itself d)

lookup-above : (d : List ℕ) (es : Devices) → AllByRecursion (λ k. path_cmp d k ≡ Less) (keys_of es) → lookup (is_at (path_cmp d)) es ≡ None
lookup-above d [] h = refl
lookup-above d (e ∷ es) h = ap (λ r. cond (is_eq r) (Some e.1) (lookup (is_at (path_cmp d)) es)) h.0 ∙ lookup-above d es h.1

abbrev pub in_names : Option Names → List ℕ → Option Series
in_names None n = None
in_names (Some names) n = tree.get path_cmp names n

seek-child : (es : Devices) → IsStrictlySortedBy path_cmp (keys_of es) → AllDotless es → (d n : List ℕ) → IsDotless n
    → seek es (child_of d n) ≡ in_names (lookup (is_at (path_cmp d)) es) n
unfolding IsStrictlySortedBy
seek-child [] s h d n a = refl
seek-child (e ∷ es) s h d n a =
    elim (is_at (path_cmp d) e.0) as (λ b. is_at (path_cmp d) e.0 ≡ b → seek (e ∷ es) (child_of d n) ≡ in_names (cond b (Some e.1) (lookup (is_at (path_cmp d)) es)) n) [
      | true ↦ λ tied. let k : d ≡ e.0 = tells_apart exact_bytes d e.0 tied in
          ap (λ o. either (looked e.1.entries o) (seek es (child_of d n))) (ap (λ x. behind x (child_of d n)) (sym k) ∙ behind-child d n)
          ∙ ap (either (tree.get path_cmp e.1 n)) (seek-child es s.1 h.1 d n a
          ∙ ap (λ o. in_names o n) (lookup-above d es (subst (λ x. AllByRecursion (λ k. path_cmp x k ≡ Less) (keys_of es)) (sym k) s.0)))
          ∙ either-none (tree.get path_cmp e.1 n)
      | false ↦ λ apart. ap (λ o. either o (seek es (child_of d n))) (nothing_there d n e a (apart_by_test d e.0 apart) h.0)
          ∙ seek-child es s.1 h.1 d n a
    ] refl

-- the series of a device with this measurement
pub get-world : (m : BTreeMap (List ℕ) Names) (world : World) → AreOrderedDevices m → world_of m.entries ≡ world → (d n : List ℕ) → IsDotless n
    → get world (child_of d n) ≡ in_names (tree.get path_cmp m d) n
get-world m world kept is d n a =
    ap (λ w. get w (child_of d n)) (sym is) ∙ get-seek m.entries (child_of d n)
    ∙ seek-child m.entries kept.ordered (recursion_from_All _ _ kept.dotless) d n a

-- one set of names is another with a series put at a name
abbrev pub Puts : Names → Names → List ℕ → Series → Type 0
Puts old new n t = (r : List ℕ) → tree.get path_cmp new r ≡ cond (is_at (path_cmp n) r) (Some t) (tree.get path_cmp old r)

looked-put : (old new : Names) (n : List ℕ) (t : Series) → Puts old new n t → (o : Option (List ℕ))
    → looked new.entries o ≡ cond (ties o n) (Some t) (looked old.entries o)
looked-put old new n t puts None = refl
looked-put old new n t puts (Some r) =
    puts r ∙ ap (λ b. cond b (Some t) (tree.get path_cmp old r)) ((eq_by_cmp_equiv nat_list_cmp_total).symm n r)

here-put : (d k n : List ℕ) (old new : Names) (t : Series) (rest : Option Series) → d ≡ k → Puts old new n t → (q : List ℕ)
    → either (looked new.entries (behind k q)) rest ≡ cond (same q (child_of d n)) (Some t) (either (looked old.entries (behind k q)) rest)
here-put d k n old new t rest is puts q =
    ap (λ o. either o rest) (looked-put old new n t puts (behind k q))
    ∙ sym (either-cond (ties (behind k q) n) t (looked old.entries (behind k q)) rest)
    ∙ ap (λ b. cond b (Some t) (either (looked old.entries (behind k q)) rest)) (sym (same-child q k n) ∙ ap (λ x. same q (child_of x n)) (sym is))

elsewhere-put : (d n : List ℕ) (e : List ℕ × Names) (t : Series) (rest : Option Series) → IsDotless n → d ≢ e.0 → All IsDotless (tree.keys e.1)
    → (q : List ℕ) → either (looked e.1.entries (behind e.0 q)) (cond (same q (child_of d n)) (Some t) rest)
    ≡ cond (same q (child_of d n)) (Some t) (either (looked e.1.entries (behind e.0 q)) rest)
elsewhere-put d n e t rest a apart h q =
    either-swap (same q (child_of d n)) (looked e.1.entries (behind e.0 q)) rest t
    (λ is. ap (λ p. looked e.1.entries (behind e.0 p)) (tells_apart exact_bytes q (child_of d n) is) ∙ nothing_there d n e a apart h)

some_is : {A : Type 0} (x y : A) → Some x ≡ Some y → x ≡ y
some_is x y e = cc

none_is_not : {A B : Type 0} (x : A) → None ≡ Some x → B
none_is_not x e = cc

seek-set : (es : Devices) → AllDotless es → (d n : List ℕ) → IsDotless n → (old new : Names) (t : Series)
    → lookup (is_at (path_cmp d)) es ≡ Some old → Puts old new n t
    → (q : List ℕ) → seek (set_value (is_at (path_cmp d)) es new) q ≡ cond (same q (child_of d n)) (Some t) (seek es q)
seek-set [] h d n a old new t found puts q = none_is_not old found
seek-set (e ∷ es) h d n a old new t found puts q =
    elim (is_at (path_cmp d) e.0) as (λ b. is_at (path_cmp d) e.0 ≡ b → cond b (Some e.1) (lookup (is_at (path_cmp d)) es) ≡ Some old
    → seek (cond b ((e.0, new) ∷ es) (e ∷ set_value (is_at (path_cmp d)) es new)) q ≡ cond (same q (child_of d n)) (Some t) (seek (e ∷ es) q)) [
      | true ↦ λ tied found. let k : d ≡ e.0 = tells_apart exact_bytes d e.0 tied in
          here-put d e.0 n old new t (seek es q) k puts q
          ∙ ap (λ (o : Names). cond (same q (child_of d n)) (Some t) (either (looked o.entries (behind e.0 q)) (seek es q))) (sym (some_is e.1 old found))
      | false ↦ λ apart found. ap (either (looked e.1.entries (behind e.0 q))) (seek-set es h.1 d n a old new t found puts q)
          ∙ elsewhere-put d n e t (seek es q) a (apart_by_test d e.0 apart) h.0 q
    ] refl found

nothing_looked : (es : List (List ℕ × Series)) (o : Option (List ℕ)) → es ≡ [] → looked es o ≡ None
nothing_looked es None e = refl
nothing_looked es (Some r) e = ap (lookup (is_at (path_cmp r))) e

front-new : (d n : List ℕ) (none new : Names) (t : Series) (rest : Option Series) → none.entries ≡ [] → Puts none new n t → (q : List ℕ)
    → either (looked new.entries (behind d q)) rest ≡ cond (same q (child_of d n)) (Some t) rest
front-new d n none new t rest empty puts q =
    here-put d d n none new t rest refl puts q
    ∙ ap (λ o. cond (same q (child_of d n)) (Some t) (either o rest)) (nothing_looked none.entries (behind d q) empty)

seek-new : (es : Devices) → AllDotless es → (d n : List ℕ) → IsDotless n → (none new : Names) (t : Series) → none.entries ≡ []
    → lookup (is_at (path_cmp d)) es ≡ None → Puts none new n t
    → (q : List ℕ) → seek (insert_entry path_cmp es d new) q ≡ cond (same q (child_of d n)) (Some t) (seek es q)
seek-new [] h d n a none new t empty absent puts q = front-new d n none new t None empty puts q
seek-new (e ∷ es) h d n a none new t empty absent puts q =
    elim (path_cmp d e.0) as (λ r. path_cmp d e.0 ≡ r → cond (is_eq r) (Some e.1) (lookup (is_at (path_cmp d)) es) ≡ None
    → seek (match_ordering r ((d, new) ∷ e ∷ es) ((e.0, new) ∷ es) (e ∷ insert_entry path_cmp es d new)) q ≡ cond (same q (child_of d n)) (Some t) (seek (e ∷ es) q)) [
      | Less ↦ λ is absent. front-new d n none new t (seek (e ∷ es) q) empty puts q
      | Equal ↦ λ is absent. none_is_not e.1 (sym absent)
      | Greater ↦ λ is absent. ap (either (looked e.1.entries (behind e.0 q))) (seek-new es h.1 d n a none new t empty absent puts q)
          ∙ elsewhere-put d n e t (seek es q) a (apart_by_test d e.0 (ap is_eq is)) h.0 q
    ] refl absent

world-by-seek : (es fs : Devices) (world : World) (p : List ℕ) (t : Series) → world_of es ≡ world
    → ((q : List ℕ) → seek fs q ≡ cond (same q p) (Some t) (seek es q)) → world_of fs ≡ insert world p t
world-by-seek es fs world p t is h = same_map nat_list_cmp_total (slice_cmp-IsAntisymmetric nat_cmp-IsAntisymmetric) _ _ (λ q.
    get-seek fs q ∙ h q ∙ ap (cond (same q p) (Some t)) (sym (get-seek es q) ∙ ap (λ w. get w q) is) ∙ sym (get-insert nat_list_cmp_total world p t q))

-- a series of a device that is there
pub world-set : (m n : BTreeMap (List ℕ) Names) (world : World) → AreOrderedDevices m → world_of m.entries ≡ world → (d name : List ℕ) → IsDotless name
    → (old new : Names) (t : Series) → tree.get path_cmp m d ≡ Some old → Puts old new name t
    → n.entries ≡ set_value (is_at (path_cmp d)) m.entries new → world_of n.entries ≡ insert world (child_of d name) t
world-set m n world kept is d name a old new t found puts written =
    ap world_of written ∙ world-by-seek m.entries _ world (child_of d name) t is (seek-set m.entries (recursion_from_All _ _ kept.dotless) d name a old new t found puts)

-- one set of names is another without a name
abbrev pub Drops : Names → Names → List ℕ → Type 0
Drops old new n = (r : List ℕ) → tree.get path_cmp new r ≡ cond (is_at (path_cmp n) r) None (tree.get path_cmp old r)

looked-drop : (old new : Names) (n : List ℕ) → Drops old new n → (o : Option (List ℕ)) → ties o n ≡ false → looked new.entries o ≡ looked old.entries o
looked-drop old new n drops None e = refl
looked-drop old new n drops (Some r) e =
    drops r ∙ ap (λ b. cond b None (tree.get path_cmp old r)) (sym ((eq_by_cmp_equiv nat_list_cmp_total).symm r n) ∙ e)

-- at every other path stands what stood there
seek-drop : (es : Devices) (d n : List ℕ) (old new : Names) → lookup (is_at (path_cmp d)) es ≡ Some old → Drops old new n
    → (q : List ℕ) → same q (child_of d n) ≡ false → seek (set_value (is_at (path_cmp d)) es new) q ≡ seek es q
seek-drop [] d n old new found drops q apart = none_is_not old found
seek-drop (e ∷ es) d n old new found drops q apart =
    elim (is_at (path_cmp d) e.0) as (λ b. is_at (path_cmp d) e.0 ≡ b → cond b (Some e.1) (lookup (is_at (path_cmp d)) es) ≡ Some old
    → seek (cond b ((e.0, new) ∷ es) (e ∷ set_value (is_at (path_cmp d)) es new)) q ≡ seek (e ∷ es) q) [
      | true ↦ λ tied found. ap (λ o. either o (seek es q))
          (looked-drop old new n drops (behind e.0 q) (ap (λ k. ties (behind k q) n) (sym (tells_apart exact_bytes d e.0 tied)) ∙ sym (same-child q d n) ∙ apart)
          ∙ ap (λ (o : Names). looked o.entries (behind e.0 q)) (sym (some_is e.1 old found)))
      | false ↦ λ other found. ap (either (looked e.1.entries (behind e.0 q))) (seek-drop es d n old new found drops q apart)
    ] refl found

-- a series that is taken away
pub world-drop : (m n : BTreeMap (List ℕ) Names) (world : World) → AreOrderedDevices m → AreOrderedDevices n → world_of m.entries ≡ world → (d name : List ℕ) → IsDotless name
    → (old new : Names) → tree.get path_cmp m d ≡ Some old → tree.get path_cmp n d ≡ Some new → Drops old new name
    → n.entries ≡ set_value (is_at (path_cmp d)) m.entries new → world_of n.entries ≡ remove world (child_of d name)
world-drop m n world kept after is d name a old new found now drops written =
    same_map nat_list_cmp_total (slice_cmp-IsAntisymmetric nat_cmp-IsAntisymmetric) _ _ (λ q.
    elim (same q (child_of d name)) as (λ b. same q (child_of d name) ≡ b → get (world_of n.entries) q ≡ cond b None (get world q)) [
      | true ↦ λ at. ap (get (world_of n.entries)) (tells_apart exact_bytes q (child_of d name) at)
          ∙ get-world n (world_of n.entries) after refl d name a ∙ ap (λ o. in_names o name) now
          ∙ drops name ∙ ap (λ b. cond b None (tree.get path_cmp old name)) (itself name)
      | false ↦ λ apart. ap (λ es. get (world_of es) q) written ∙ get-seek _ q ∙ seek-drop m.entries d name old new found drops q apart
          ∙ sym (get-seek m.entries q) ∙ ap (λ w. get w q) is
    ] refl
    ∙ sym (get-remove nat_list_cmp_total world (child_of d name) q))

-- to take away what is not there changes nothing
pub remove-absent : (world : World) (p : List ℕ) → get world p ≡ None → remove world p ≡ world
remove-absent world p none = same_map nat_list_cmp_total (slice_cmp-IsAntisymmetric nat_cmp-IsAntisymmetric) _ _ (λ q.
    get-remove nat_list_cmp_total world p q
    ∙ elim (same q p) as (λ b. same q p ≡ b → cond b None (get world q) ≡ get world q)
    [ true ↦ λ e. sym none ∙ ap (get world) (sym (tells_apart exact_bytes q p e)) | false ↦ λ e. refl ] refl)

-- a series that was new is taken away again
pub remove-insert : (world : World) (p : List ℕ) (s : Series) → get world p ≡ None → remove (insert world p s) p ≡ world
remove-insert world p s none = same_map nat_list_cmp_total (slice_cmp-IsAntisymmetric nat_cmp-IsAntisymmetric) _ _ (λ q.
    get-remove nat_list_cmp_total (insert world p s) p q ∙ ap (cond (same q p) None) (get-insert nat_list_cmp_total world p s q)
    ∙ elim (same q p) as (λ b. same q p ≡ b → cond b None (cond b (Some s) (get world q)) ≡ get world q)
    [ true ↦ λ e. sym none ∙ ap (get world) (sym (tells_apart exact_bytes q p e)) | false ↦ λ e. refl ] refl)

-- the first series of a device
pub world-new : (m n : BTreeMap (List ℕ) Names) (world : World) → AreOrderedDevices m → world_of m.entries ≡ world → (d name : List ℕ) → IsDotless name
    → (none new : Names) (t : Series) → none.entries ≡ [] → tree.get path_cmp m d ≡ None → Puts none new name t
    → n.entries ≡ insert_entry path_cmp m.entries d new → world_of n.entries ≡ insert world (child_of d name) t
world-new m n world kept is d name a none new t empty absent puts written =
    ap world_of written ∙ world-by-seek m.entries _ world (child_of d name) t is (seek-new m.entries (recursion_from_All _ _ kept.dotless) d name a none new t empty absent puts)

pub kept-set : (m n : BTreeMap (List ℕ) Names) → AreOrderedDevices m → (d : List ℕ) (new : Names) → n.entries ≡ set_value (is_at (path_cmp d)) m.entries new
    → tree.IsOrdered path_cmp n → All IsDotless (tree.keys new) → AreOrderedDevices n
kept-set m n kept d new written ordered h = record {
  ordered = ordered;
  dotless = subst (λ es. All (λ names. All IsDotless (tree.keys names)) (values_of es)) (sym written)
      (All-values-set_value (is_at (path_cmp d)) (λ names. All IsDotless (tree.keys names)) m.entries new kept.dotless h);
}

pub kept-new : (m n : BTreeMap (List ℕ) Names) → AreOrderedDevices m → (d : List ℕ) (new : Names) → n.entries ≡ insert_entry path_cmp m.entries d new
    → tree.IsOrdered path_cmp n → All IsDotless (tree.keys new) → AreOrderedDevices n
kept-new m n kept d new written ordered h = record {
  ordered = ordered;
  dotless = subst (λ es. All (λ names. All IsDotless (tree.keys names)) (values_of es)) (sym written)
      (All-values-insert_entry path_cmp d new (λ names. All IsDotless (tree.keys names)) m.entries kept.dotless h);
}

-- the names of a device that is there have no dots
pub kept-found : (m : BTreeMap (List ℕ) Names) → AreOrderedDevices m → (d : List ℕ) (names : Names) → tree.get path_cmp m d ≡ Some names → All IsDotless (tree.keys names)
kept-found m kept d names found = at (tree.get path_cmp m d) found (IfSome-lookup_from_All (λ names. All IsDotless (tree.keys names)) (is_at (path_cmp d)) m.entries kept.dotless)
  where
    at : (o : Option Names) → o ≡ Some names → IfSome o (λ names. All IsDotless (tree.keys names)) → All IsDotless (tree.keys names)
    at None e h = none_is_not names e
    at (Some x) e h = subst (λ (x : Names). All IsDotless (tree.keys x)) (some_is x names e) h

pub dotless-put : (old new : Names) (n : List ℕ) (t : Series) → IsDotless n → All IsDotless (tree.keys old)
    → new.entries ≡ insert_entry path_cmp old.entries n t → All IsDotless (tree.keys new)
dotless-put old new n t a h written =
    subst (λ es. All IsDotless (keys_of es)) (sym written) (All-keys-insert_entry path_cmp n t IsDotless old.entries h a)

pub dotless-drop : (old new : Names) (n : List ℕ) → All IsDotless (tree.keys old)
    → new.entries ≡ remove_entry (is_at (path_cmp n)) old.entries → All IsDotless (tree.keys new)
dotless-drop old new n h written =
    subst (λ es. All IsDotless (keys_of es)) (sym written) (All-map-remove_entry (is_at (path_cmp n)) (λ (e : List ℕ × Series). e.0) IsDotless old.entries h)

pub dotless-same : (old new : Names) → All IsDotless (tree.keys old) → tree.keys new ≡ tree.keys old → All IsDotless (tree.keys new)
dotless-same old new h same_keys = subst (All IsDotless) (sym same_keys) h

pub IsDotless-name : (name : List ℕ) → IsName name → IsDotless name
IsDotless-name name is = IsNode-dotless name is.node

-- where a device gets back the names that it had, nothing has changed
flat-same : (d : List ℕ) (es : Devices) (old new : Names) → lookup (is_at (path_cmp d)) es ≡ Some old → new.entries ≡ old.entries
    → flat_map device_entries (set_value (is_at (path_cmp d)) es new) ≡ flat_map device_entries es
flat-same d [] old new found e = refl
flat-same d (x ∷ es) old new found e =
    elim (is_at (path_cmp d) x.0) as (λ b. cond b (Some x.1) (lookup (is_at (path_cmp d)) es) ≡ Some old
    → flat_map device_entries (cond b ((x.0, new) ∷ es) (x ∷ set_value (is_at (path_cmp d)) es new)) ≡ flat_map device_entries (x ∷ es)) [
      | true ↦ λ found. ap (λ (l : List (List ℕ × Series)). map (λ e. (child_of x.0 e.0, e.1)) l ++ flat_map device_entries es)
          (e ∙ ap (λ (n : Names). n.entries) (sym (some_is x.1 old found)))
      | false ↦ λ found. ap (λ l. device_entries x ++ l) (flat-same d es old new found e)
    ] found

pub world-same : (m n : BTreeMap (List ℕ) Names) (world : World) → world_of m.entries ≡ world → (d : List ℕ) (old new : Names)
    → tree.get path_cmp m d ≡ Some old → new.entries ≡ old.entries → n.entries ≡ set_value (is_at (path_cmp d)) m.entries new → world_of n.entries ≡ world
world-same m n world is d old new found e written =
    ap world_of written ∙ ap (λ l. from_entries l) (flat-same d m.entries old new found e) ∙ is

-- to write what a series is changes nothing
pub insert-same : (world : World) (p : List ℕ) (s : Series) → get world p ≡ Some s → insert world p s ≡ world
insert-same world p s is = same_map nat_list_cmp_total (slice_cmp-IsAntisymmetric nat_cmp-IsAntisymmetric) _ _ (λ q.
    get-insert nat_list_cmp_total world p s q
    ∙ elim (same q p) as (λ b. same q p ≡ b → cond b (Some s) (get world q) ≡ get world q)
    [ true ↦ λ e. sym is ∙ ap (get world) (sym (tells_apart exact_bytes q p e)) | false ↦ λ e. refl ] refl)

pub nothing : {A : Type 0} (found : Option Series) → IsSome found → found ≡ None → A
nothing found some none = absurd (false≢true (sym (ap is_some none) ∙ some))

-- what was written to the series that was found is written to the world
pub change-there : (world : World) (p : List ℕ) (f : Series → Series) (s t : Series) → get world p ≡ Some s → t ≡ f s → insert world p t ≡ change world p f
change-there world p f s t there is = ap (insert world p) is ∙ sym (ap (change_series world p f) there)

pub dotless-empty : (names : Names) → names.entries ≡ [] → All IsDotless (tree.keys names)
dotless-empty names e = subst (λ es. All IsDotless (keys_of es)) (sym e) (All-from_recursion IsDotless [] tt)
