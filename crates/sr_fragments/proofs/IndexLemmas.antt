-- The latest fragment at a spot among all transactions but one is the greatest of what the index
-- has of each, and the index follows the open transactions.
use Rattle.std.proofs.Common.{◌≡◌, ◌≤◌, ◌<◌, ◌+◌, ℕ, Bool, true, false, cond, ◌||◌, ◌&&◌, List, [], ◌∷◌, ◌++◌, length, take, get_or, Option, Some, None, refl, sym, ap, ◌∙◌, arith}
use Rattle.std.specs.Prelude.{T, max, nat_lt, unwrap_or, flat_map}
use Rattle.std.specs.Cmp.{eq_by_cmp_equiv}
use Rattle.std.specs.List.{list_any}
use Rattle.std.specs.Ordering.{eq_by_cmp, is_eq, is_lt}
use Rattle.std.specs.declared.cmp.Ordering.{Ordering}
use Rattle.std.specs.declared.cmp.Ordering.TheVariants.{Less, Equal, Greater}
use Rattle.std.proofs.lemmas.List.{take_more}
use Rattle.std.specs.FinMap.Entries.{below_all, find, is_sorted}
use Rattle.finite_map.specs.FiniteMap.{empty, get, get-empty, get-entries, get-insert, get-remove, insert, remove}
use Rattle.finite_map.proofs.Edits.{itself, tied}
use Rattle.wsrep_base.specs.declared.ids.TrxId.{TrxId}
use Rattle.wsrep_base.specs.Trx.{trx_cmp, same_trx}
use Rattle.cert_meaning.specs.declared.items.Fragment.{Fragment}
use Rattle.cert_meaning.specs.Extremes.{greater}
use Rattle.cert_meaning.specs.State.{fragments_but}
use Rattle.cert_meaning.proofs.ExtremeLemmas.{greater-assoc, greater-none}
use Rattle.cert_meaning.proofs.TrxLemmas.{transactions, trx_total}
use Rattle.sr_fragments.specs.declared.spot.Spot.{Spot}
use Rattle.sr_fragments.specs.declared.spot.Place.{Place}
use Rattle.sr_fragments.specs.Spots.{place_at}
use Rattle.sr_fragments.specs.HeldIndex.{is_key_at, is_place, is_rising, IsLatestBut}
use Rattle.sr_fragments.specs.OpenSet.{Open, added, fragments_in, is_place_of, latest, latest_at, stands_at, stands_of}
use Rattle.sr_fragments.proofs.LatestLemmas.{at, greater-comm, greater-same, latest-and, latest-append, latest-step}

abbrev pub Entries : Type 0
Entries = List (TrxId × List Fragment)

-- the fragments of a transaction among entries, and those of all entries
abbrev pub its : TrxId → Entries → List Fragment
its t es = unwrap_or (find trx_cmp t es) []

abbrev pub all_of : Entries → List Fragment
all_of es = flat_map (λ entry. entry.1) es

-- ---- of entries in order
first_so : (a b : Bool) → T (a && b) → T a
first_so true b h = tt
first_so false b h = h

second_so : (a b : Bool) → T (a && b) → T b
second_so true b h = h
second_so false b h = absurd h

none_equal : (o : Ordering) → T (is_lt o) → is_eq o ≡ false
none_equal Less h = refl
none_equal Equal h = absurd h
none_equal Greater h = absurd h

-- a transaction below all others is not among them
not_below : (t : TrxId) (es : Entries) → T (below_all trx_cmp t es) → find trx_cmp t es ≡ None
not_below t [] h = refl
not_below t (e ∷ es) h =
    ap (λ b. cond b (Some e.1) (find trx_cmp t es))
    (none_equal (trx_cmp t e.0) (first_so (is_lt (trx_cmp t e.0)) (below_all trx_cmp t es) h))
    ∙ not_below t es (second_so (is_lt (trx_cmp t e.0)) (below_all trx_cmp t es) h)

module _ (p : Fragment → Bool) where
  -- what is no greater than the number is left out beside it
  abbrev pub Within : Option ℕ → Option ℕ → Type 0
  Within o r = greater o r ≡ r

  have_step : (b : Bool) (found : Option (List Fragment)) (here : List Fragment) (rest : Option ℕ)
      → Within (latest p (unwrap_or found [])) rest
      → Within (latest p (unwrap_or (cond b (Some here) found) [])) (greater (latest p here) rest)
  have_step true found here rest h =
      sym (greater-assoc (latest p here) (latest p here) rest)
      ∙ ap (λ o. greater o rest) (greater-same (latest p here))
  have_step false found here rest h =
      let it = latest p (unwrap_or found []) in
      sym (greater-assoc it (latest p here) rest)
      ∙ ap (λ o. greater o rest) (greater-comm it (latest p here))
      ∙ greater-assoc (latest p here) it rest ∙ ap (greater (latest p here)) h

  -- the latest of a transaction is no greater than that of all
  pub all-have : (t : TrxId) (es : Entries) → Within (latest p (its t es)) (latest p (all_of es))
  all-have t [] = refl
  all-have t (e ∷ es) =
      ap (greater (latest p (its t (e ∷ es)))) (latest-append p e.1 (all_of es))
      ∙ have_step (eq_by_cmp trx_cmp t e.0) (find trx_cmp t es) e.1 (latest p (all_of es))
      (all-have t es)
      ∙ sym (latest-append p e.1 (all_of es))

  -- and that of all is no greater than what bounds that of each
  pub all-within : (r : Option ℕ) (es : Entries) → T (is_sorted trx_cmp es)
      → ((t : TrxId) → Within (latest p (its t es)) r) → Within (latest p (all_of es)) r
  all-within r [] h each = refl
  all-within r (e ∷ es) h each =
      ap (λ o. greater o r) (latest-append p e.1 (all_of es))
      ∙ greater-assoc (latest p e.1) (latest p (all_of es)) r
      ∙ ap (greater (latest p e.1))
      (all-within r es (second_so (below_all trx_cmp e.0 es) (is_sorted trx_cmp es) h) rest)
      ∙ ap (λ b. greater (latest p (unwrap_or (cond b (Some e.1) (find trx_cmp e.0 es)) [])) r)
      (sym (itself transactions e.0))
      ∙ each e.0
    where
      by : (t : TrxId) (b : Bool) → eq_by_cmp trx_cmp t e.0 ≡ b
          → Within (latest p (unwrap_or (cond b (Some e.1) (find trx_cmp t es)) [])) r
          → Within (latest p (its t es)) r
      by t true is one =
          ap (λ o. greater (latest p (unwrap_or o [])) r)
          (ap (λ u. find trx_cmp u es) (tied transactions t e.0 is)
          ∙ not_below e.0 es (first_so (below_all trx_cmp e.0 es) (is_sorted trx_cmp es) h))
      by t false is one = one

      rest : (t : TrxId) → Within (latest p (its t es)) r
      rest t = by t (eq_by_cmp trx_cmp t e.0) refl (each t)

-- ---- the latest but one
module _ (open_trx : Open) (spot : Spot) (trx : TrxId) (found : Place → Option ℕ)
    (same : (p : Place) → found p ≡ latest_at p.spot (fragments_in open_trx p.trx)) where
  abbrev others : Entries
  others = (remove open_trx trx).entries

  turn : (t : TrxId) → eq_by_cmp trx_cmp t trx ≡ same_trx trx t
  turn t = (eq_by_cmp_equiv trx_total).symm t trx

  -- what is there of a transaction, once the one is left out
  there : (t : TrxId) (b : Bool) → same_trx trx t ≡ b
      → latest_at spot (its t others) ≡ cond b None (found (place_at spot t))
  there t b is =
      ap (λ o. latest_at spot (unwrap_or o []))
      (sym (get-entries (remove open_trx trx) t) ∙ get-remove trx_total open_trx trx t
      ∙ ap (λ c. cond c None (get open_trx t)) (turn t ∙ is))
      ∙ by b
    where
      by : (b : Bool) → latest_at spot (unwrap_or (cond b None (get open_trx t)) [])
          ≡ cond b None (found (place_at spot t))
      by true = refl
      by false = sym (same (place_at spot t))

  below_top : (top : ℕ) (o : Option ℕ) → ((n : ℕ) → o ≡ Some n → n ≤ top)
      → greater o (Some top) ≡ Some top
  below_top top None h = refl
  below_top top (Some n) h =
      let low = h n refl in ap Some (let is : max n top ≡ top = omega (arith, low) in is)

  each : (r : Option ℕ) → IsLatestBut found spot trx r → (t : TrxId) (b : Bool) → same_trx trx t ≡ b
      → greater (cond b None (found (place_at spot t))) r ≡ r
  each r is t true own = refl
  each None is t false other = ap (λ o. greater o None) (is t other)
  each (Some top) is t false other =
      below_top top (found (place_at spot t)) (λ n. is.most t n other)

  within : (r : Option ℕ) → IsLatestBut found spot trx r
      → greater (latest_at spot (all_of others)) r ≡ r
  within r is =
      all-within (stands_at spot) r others (remove open_trx trx).sorted
      (λ t. ap (λ o. greater o r) (there t (same_trx trx t) refl)
      ∙ each r is t (same_trx trx t) refl)

  pub latest-but : (r : Option ℕ) → IsLatestBut found spot trx r
      → r ≡ latest_at spot (fragments_but open_trx trx)
  latest-but None is = sym (within None is) ∙ greater-none (latest_at spot (all_of others))
  latest-but (Some top) is =
      sym (within (Some top) is) ∙ greater-comm (latest_at spot (all_of others)) (Some top)
      ∙ ap (λ o. greater o (latest_at spot (all_of others)))
      (sym (there is.of false is.other ∙ is.has))
      ∙ all-have (stands_at spot) is.of others

-- ---- the index follows
latest-alone : (p : Fragment → Bool) (f : Fragment) → latest p (f ∷ []) ≡ at (p f) f.number
latest-alone p f = latest-step p f [] ∙ greater-none (at (p f) f.number)

-- where none stands, none is the latest
none_here : (b any : Bool) (n : ℕ) (o : Option ℕ) → b || any ≡ false → (any ≡ false → o ≡ None)
    → greater (at b n) o ≡ None
none_here true any n o none h = cc
none_here false any n o none h = h none

latest-none_any : (p : Fragment → Bool) (es : List Fragment) → list_any p es ≡ false
    → latest p es ≡ None
latest-none_any p [] none = refl
latest-none_any p (e ∷ es) none =
    latest-step p e es ∙ none_here (p e) (list_any p es) e.number (latest p es) none
    (latest-none_any p es)

rises : (stands : Bool) (number : ℕ) (old : Option ℕ)
    → cond (stands && is_rising number old) (Some number) old ≡ greater old (at stands number)
rises true number None = refl
rises true number (Some n) = by (nat_lt n number) refl
  where
    by : (b : Bool) → nat_lt n number ≡ b → cond b (Some number) (Some n) ≡ Some (max n number)
    by true is = grind (arith, is)
    by false is = grind (arith, is)
rises false number old = sym (greater-none old)

module _ (open_trx : Open) (trx : TrxId) (p : Place) where
  turned : eq_by_cmp trx_cmp p.trx trx ≡ same_trx trx p.trx
  turned = (eq_by_cmp_equiv trx_total).symm p.trx trx

  its_own : same_trx trx p.trx ≡ true → trx ≡ p.trx
  its_own own = tied transactions trx p.trx own

  added_by : (f : Fragment) (old : Option ℕ) → old ≡ latest_at p.spot (fragments_in open_trx p.trx)
      → (b : Bool) → same_trx trx p.trx ≡ b
      → cond ((b && list_any (is_key_at p.spot) f.keys.entries) && is_rising f.number old)
      (Some f.number) old
      ≡ latest_at p.spot (unwrap_or
      (cond b (Some (fragments_in open_trx trx ++ f ∷ [])) (get open_trx p.trx)) [])
  added_by f old is true own =
      rises (stands_at p.spot f) f.number old
      ∙ (λ i. greater (is i) (sym (latest-alone (stands_at p.spot) f) i))
      ∙ ap (λ t. greater (latest_at p.spot (fragments_in open_trx t)) (latest_at p.spot (f ∷ [])))
      (sym (its_own own))
      ∙ sym (latest-append (stands_at p.spot) (fragments_in open_trx trx) (f ∷ []))
  added_by f old is false other = is

  -- a fragment is added
  pub latest-added : (f : Fragment) (old : Option ℕ)
      → old ≡ latest_at p.spot (fragments_in open_trx p.trx)
      → cond (is_place trx f.keys.entries p && is_rising f.number old) (Some f.number) old
      ≡ latest_at p.spot (fragments_in (added open_trx trx f) p.trx)
  latest-added f old is =
      let more = fragments_in open_trx trx ++ f ∷ [] in
      added_by f old is (same_trx trx p.trx) refl
      ∙ ap (λ o. latest_at p.spot (unwrap_or o []))
      (ap (λ b. cond b (Some more) (get open_trx p.trx)) (sym turned)
      ∙ sym (get-insert trx_total open_trx trx more p.trx))

  -- a transaction with these fragments, or one that is not open, is closed
  pub latest-closed : (fragments : List Fragment) (old : Option ℕ)
      → fragments ≡ fragments_in open_trx trx
      → old ≡ latest_at p.spot (fragments_in open_trx p.trx)
      → cond (is_place_of trx fragments p) None old
      ≡ latest_at p.spot (fragments_in (remove open_trx trx) p.trx)
  latest-closed fragments old had is =
      by (same_trx trx p.trx) refl
      ∙ ap (λ o. latest_at p.spot (unwrap_or o []))
      (ap (λ b. cond b None (get open_trx p.trx)) (sym turned)
      ∙ sym (get-remove trx_total open_trx trx p.trx))
    where
      stood : same_trx trx p.trx ≡ true → (b : Bool) → list_any (stands_at p.spot) fragments ≡ b
          → cond b None old ≡ None
      stood own true any = refl
      stood own false any =
          is ∙ ap (λ t. latest_at p.spot (fragments_in open_trx t)) (sym (its_own own))
          ∙ ap (latest_at p.spot) (sym had)
          ∙ latest-none_any (stands_at p.spot) fragments any

      by : (b : Bool) → same_trx trx p.trx ≡ b
          → cond (b && list_any (stands_at p.spot) fragments) None old
          ≡ latest_at p.spot (unwrap_or (cond b None (get open_trx p.trx)) [])
      by true own = stood own (list_any (stands_at p.spot) fragments) refl
      by false other = is

  -- these fragments are put in place of those of the transaction
  pub latest-put : (fragments : List Fragment)
      → greater (latest_at p.spot (fragments_in (remove open_trx trx) p.trx))
      (latest (stands_of trx p) fragments)
      ≡ latest_at p.spot (fragments_in (insert open_trx trx fragments) p.trx)
  latest-put fragments =
      (λ i. greater
      (latest_at p.spot (unwrap_or (get-remove trx_total open_trx trx p.trx i) []))
      (latest-and (same_trx trx p.trx) (stands_at p.spot) fragments i))
      ∙ ap (λ b. greater (latest_at p.spot (unwrap_or (cond b None (get open_trx p.trx)) []))
      (cond (same_trx trx p.trx) (latest_at p.spot fragments) None)) turned
      ∙ by (same_trx trx p.trx)
      ∙ ap (λ b. latest_at p.spot (unwrap_or (cond b (Some fragments) (get open_trx p.trx)) []))
      (sym turned)
      ∙ ap (λ o. latest_at p.spot (unwrap_or o []))
      (sym (get-insert trx_total open_trx trx fragments p.trx))
    where
      by : (b : Bool)
          → greater (latest_at p.spot (unwrap_or (cond b None (get open_trx p.trx)) []))
          (cond b (latest_at p.spot fragments) None)
          ≡ latest_at p.spot (unwrap_or (cond b (Some fragments) (get open_trx p.trx)) [])
      by true = refl
      by false = greater-none (latest_at p.spot (fragments_in open_trx p.trx))

-- some fragments of a transaction are added, and then one more
pub latest-more : (trx : TrxId) (p : Place) (fragments : List Fragment) (i : ℕ) (f : Fragment)
    (old now new : Option ℕ)
    → i < length fragments → now ≡ greater old (latest (stands_of trx p) (take i fragments))
    → new ≡ cond (is_place trx (get_or fragments i f).keys.entries p
    && is_rising (get_or fragments i f).number now) (Some (get_or fragments i f).number) now
    → new ≡ greater old (latest (stands_of trx p) (take (i + 1) fragments))
latest-more trx p fragments i f old now new inside so_far is =
    let one = get_or fragments i f in
    let front = latest (stands_of trx p) (take i fragments) in
    is ∙ rises (stands_of trx p one) one.number now
    ∙ ap (λ o. greater o (at (stands_of trx p one) one.number)) so_far
    ∙ greater-assoc old front (at (stands_of trx p one) one.number)
    ∙ ap (greater old)
    (ap (greater front) (sym (latest-alone (stands_of trx p) one))
    ∙ sym (latest-append (stands_of trx p) (take i fragments) (one ∷ []))
    ∙ ap (latest (stands_of trx p)) (sym (take_more fragments i f inside)))

-- none is open
pub latest-empty : (p : Place) → latest_at p.spot (fragments_in empty p.trx) ≡ None
latest-empty p = ap (λ (o : Option (List Fragment)). latest_at p.spot (unwrap_or o []))
    (get-empty trx_cmp p.trx)
