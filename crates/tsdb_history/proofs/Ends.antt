-- The last entries of a history.
use Rattle.std.proofs.Common.{◌≡◌, ◌⊎◌, List, [], ◌∷◌, ◌++◌, length, inl, inr, refl, sym, ap, append_assoc, arith, subst, ◌∙◌}
use Rattle.std.proofs.lemmas.List.{length-append}
use Rattle.std.proofs.lemmas.List.Elements.{All-from_recursion, recursion_from_All}
use Rattle.std.specs.List.{AllByRecursion as Each}
use Rattle.tsdb_history.proofs.Entries.{heads}
use Rattle.tsdb_history.specs.Prefixes.{LastIs, EndsListed}
use Rattle.tsdb_base.proofs.Lists.{each_left, each_right}
use Rattle.tsdb_model.specs.History.{Entry}
use Rattle.tsdb_model.specs.declared.command.Command.{Command}
use Rattle.tsdb_model.specs.declared.command.Command.TheVariants.{ShowFiles}
use Rattle.tsdb_model.specs.declared.reply.Listing.{Listing}
use Rattle.tsdb_model.specs.declared.reply.Reply.{Reply}
use Rattle.tsdb_model.specs.declared.reply.Reply.TheVariants.{Files}

-- two lists with the same last element and the same ones before it
same_end : {X : Type 0} (xs ys : List X) (x y : X) → xs ++ x ∷ [] ≡ ys ++ y ∷ [] → (xs ≡ ys) × (x ≡ y)
same_end [] [] x y same = (refl, cc)
same_end [] (b ∷ ys) x y same = absurd (let e = ap length same in let l = length-append ys (y ∷ []) in omega (arith, e, l))
same_end (a ∷ xs) [] x y same = absurd (let e = ap length same in let l = length-append xs (x ∷ []) in omega (arith, e, l))
same_end (a ∷ xs) (b ∷ ys) x y same =
    let h = heads a b (xs ++ x ∷ []) (ys ++ y ∷ []) same in
    let rest = same_end xs ys x y h.1 in
    (ap (λ c. c ∷ xs) h.0 ∙ ap (λ l. b ∷ l) rest.0, rest.1)

-- a list is empty, or has a last element
ends_in : {X : Type 0} (xs : List X) → (xs ≡ []) ⊎ ((front : List X) × (x : X) × (xs ≡ front ++ x ∷ []))
ends_in [] = inl refl
ends_in (y ∷ xs) = by (ends_in xs)
  where
    by : (xs ≡ []) ⊎ ((front : List _) × (x : _) × (xs ≡ front ++ x ∷ []))
        → (y ∷ xs ≡ []) ⊎ ((front : List _) × (x : _) × (y ∷ xs ≡ front ++ x ∷ []))
    by (inl none) = inr ([], y, ap (λ l. y ∷ l) none)
    by (inr found) = inr (y ∷ found.0, found.1, ap (λ l. y ∷ l) found.2)

-- what ends in such an entry does so in its last one, or the last one passes and those before it end so
pub last_ends : (Is Passes : Entry → Type 0) (entries : List Entry) (entry : Entry)
    → LastIs Is Passes (entries ++ entry ∷ []) → Is entry ⊎ (LastIs Is Passes entries × Passes entry)
last_ends Is Passes entries entry ends = by (ends_in ends.later)
  where
    by : (ends.later ≡ []) ⊎ ((front : List Entry) × (x : Entry) × (ends.later ≡ front ++ x ∷ []))
        → Is entry ⊎ (LastIs Is Passes entries × Passes entry)
    by (inl none) = inl (subst Is (sym (same_end entries ends.before entry ends.last
        (ends.split ∙ ap (λ l. ends.before ++ (ends.last ∷ l)) none)).1) ends.such)
    by (inr found) =
        let same = same_end entries (ends.before ++ (ends.last ∷ found.0)) entry found.1
        (ends.split ∙ ap (λ l. ends.before ++ (ends.last ∷ l)) found.2
        ∙ sym (append_assoc ends.before (ends.last ∷ found.0) (found.1 ∷ []))) in
        let each : Each Passes (found.0 ++ found.1 ∷ []) =
        subst (Each Passes) found.2 (recursion_from_All Passes ends.later ends.since) in
        inr (
          record {
            before = ends.before;
            last = ends.last;
            later = found.0;
            split = same.0;
            such = ends.such;
            since = All-from_recursion Passes found.0 (each_left Passes found.0 (found.1 ∷ []) each);
          },
          subst Passes (sym same.1) (each_right Passes found.0 (found.1 ∷ []) each).0,
        )

-- where there are no entries none is the last
pub none_ends : (Is Passes : Entry → Type 0) → ¬ LastIs Is Passes []
none_ends Is Passes ends =
    let e = ap length ends.split in
    let l = length-append ends.before (ends.last ∷ ends.later) in
    omega (arith, e, l)

-- no entries end in a listing where there are none
pub none_listed : (listing : Listing) → ¬ EndsListed [] listing
none_listed listing (before, split) =
    let e = ap length split in
    let l = length-append before (record { command = ShowFiles; reply = Files listing } ∷ []) in
    omega (arith, e, l)

-- a listing at the end of entries is the last one's reply
pub last_listed : (entries : List Entry) (command : Command) (reply : Reply) (listing : Listing)
    → EndsListed (entries ++ record { command = command; reply = reply } ∷ []) listing
    → (command ≡ ShowFiles) × (reply ≡ Files listing)
last_listed entries command reply listing (before, split) =
    let same = (same_end entries before (record { command = command; reply = reply })
    (record { command = ShowFiles; reply = Files listing }) split).1 in
    (ap (λ e. e.command) same, ap (λ e. e.reply) same)
