-- Sources that are opened one behind the other.
use Rattle.std.proofs.Common.{◌≡◌, ℕ, ◌≤◌, List, [], ◌∷◌, ◌++◌, Err, refl, sym, ap, subst, ◌∙◌, arith}
use Rattle.std.specs.List.{AllZip}
use Rattle.std.specs.Prelude.{All}
use Rattle.std.proofs.lemmas.List.{append_assoc, append-nil}
use Rattle.std.proofs.lemmas.List.Elements.{All-head, All-nil, All-push, All-tail}
use Rattle.tsdb_streams.specs.Files.{HasReason}
use Rattle.tsdb_streams.proofs.Reasons.{reason_then, same_reason}
use Rattle.tsdb_outside.specs.Files.{Store}
use Rattle.tsdb_outside.specs.declared.faults.StoreFault.{StoreFault}

zip_push : {A B : Type 0} (R : A → B → Type 0) (xs : List A) (ys : List B) (x : A) (y : B) → AllZip R xs ys → R x y → AllZip R (xs ++ x ∷ []) (ys ++ y ∷ [])
zip_push R [] [] x y all one = (one, tt)
zip_push R [] (b ∷ ys) x y all one = absurd all
zip_push R (a ∷ xs) [] x y all one = absurd all
zip_push R (a ∷ xs) (b ∷ ys) x y all one = (all.0, zip_push R xs ys x y all.1 one)

all_back : {A : Type 0} (P : A → Type 0) (xs ys : List A) → All P (xs ++ ys) → All P ys
all_back P [] ys all = all
all_back P (x ∷ xs) ys all = all_back P xs ys (All-tail P x (xs ++ ys) all)

module _ {S L : Type 0} (Opens : S → L → Type 0) (SourceOf : S → Type 0) (LaneOf : L → Type 0) where
  -- these are opened, and the rest is still to be
  pub record IsOpening (store store_now : Store) (faults faults_now : ℕ) (sources rest : List S) (lanes : List L) : Type 0 where
    pub done : List S
    pub are : sources ≡ done ++ rest
    pub opens : AllZip Opens done lanes
    pub of_store : All SourceOf rest
    pub lanes_of : All LaneOf lanes
    pub same_store : store_now ≡ store
    pub later : faults ≤ faults_now

  pub opening_none : (store : Store) (faults : ℕ) (sources rest : List S) (lanes : List L) → rest ≡ sources → lanes ≡ [] → All SourceOf sources → IsOpening store store faults faults sources rest lanes
  opening_none store faults sources rest lanes all none of = record {
    done = [];
    are = sym all;
    opens = subst (AllZip Opens []) (sym none) tt;
    of_store = subst (All SourceOf) (sym all) of;
    lanes_of = subst (All LaneOf) (sym none) (All-nil LaneOf);
    same_store = refl;
    later = omega arith;
  }

  -- one that a call opened
  pub opening_more : (store store_now store_next : Store) (faults faults_now faults_next : ℕ) (sources rest rest_next : List S) (lanes lanes_next : List L) (source : S) (lane : L)
      → IsOpening store store_now faults faults_now sources rest lanes → rest ≡ source ∷ rest_next → lanes_next ≡ lanes ++ lane ∷ [] → Opens source lane → LaneOf lane → store_next ≡ store_now → faults_now ≤ faults_next
      → IsOpening store store_next faults faults_next sources rest_next lanes_next
  opening_more store store_now store_next faults faults_now faults_next sources rest rest_next lanes lanes_next source lane inv next pushed opens of same later =
      let before = inv.later in
      record {
        done = inv.done ++ source ∷ [];
        are = inv.are ∙ ap (λ (l : List S). inv.done ++ l) next ∙ sym (append_assoc inv.done (source ∷ []) rest_next);
        opens = subst (AllZip Opens (inv.done ++ source ∷ [])) (sym pushed) (zip_push Opens inv.done lanes source lane inv.opens opens);
        of_store = All-tail SourceOf source rest_next (subst (All SourceOf) next inv.of_store);
        lanes_of = subst (All LaneOf) (sym pushed) (All-push LaneOf lanes lane inv.lanes_of of);
        same_store = same ∙ inv.same_store;
        later = omega (arith, before, later);
      }

  -- the next one is of the store
  pub next_of : (store store_now : Store) (faults faults_now : ℕ) (sources rest rest_next : List S) (lanes : List L) (source : S) → IsOpening store store_now faults faults_now sources rest lanes → rest ≡ source ∷ rest_next → SourceOf source
  next_of store store_now faults faults_now sources rest rest_next lanes source inv next = All-head SourceOf source rest_next (subst (All SourceOf) next inv.of_store)

  -- what is so of all sources is so of the next one
  pub next_all : (P : S → Type 0) (store store_now : Store) (faults faults_now : ℕ) (sources rest rest_next : List S) (lanes : List L) (source : S) → IsOpening store store_now faults faults_now sources rest lanes → rest ≡ source ∷ rest_next
      → All P sources → P source
  next_all P store store_now faults faults_now sources rest rest_next lanes source inv next all = All-head P source rest_next (subst (All P) next (all_back P inv.done rest (subst (All P) inv.are all)))

  -- the reason of a source's call is one of all of them
  pub next_fault : {U T : Type 0} (Told : S → Type 0) (store store_now : Store) (faults faults_now faults_next : ℕ) (sources rest rest_next : List S) (lanes : List L) (source : S) (fault : StoreFault)
      → IsOpening store store_now faults faults_now sources rest lanes → rest ≡ source ∷ rest_next → HasReason {T = U} (Told source) faults_now faults_next (Err fault) → HasReason {T = T} (All Told sources) faults faults_next (Err fault)
  next_fault Told store store_now faults faults_now faults_next sources rest rest_next lanes source fault inv next reason =
      same_reason _ _ _ fault (reason_then (All Told sources) (Told source) faults faults_now faults_next (Err fault) (next_all Told store store_now faults faults_now sources rest rest_next lanes source inv next) inv.later reason)

  -- all are opened
  pub all_opened : (store store_now : Store) (faults faults_now : ℕ) (sources rest : List S) (lanes : List L) → IsOpening store store_now faults faults_now sources rest lanes → rest ≡ [] → AllZip Opens sources lanes
  all_opened store store_now faults faults_now sources rest lanes inv end =
      let all : sources ≡ inv.done = inv.are ∙ ap (λ (l : List S). inv.done ++ l) end ∙ append-nil inv.done in
      subst (λ (l : List S). AllZip Opens l lanes) (sym all) inv.opens
