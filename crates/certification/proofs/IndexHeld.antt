-- What an index keeps of commits whose numbers rise: once one more is entered, and once old ones are purged.
use Rattle.std.proofs.Common.{◌≡◌, ℕ, zero, suc, ◌+◌, ◌≤◌, ◌<◌, Bool, true, false, cond, List, [], ◌∷◌, ◌++◌, length, take, get_or, refl, sym, ap, ◌∙◌, arith, append-nil}
use Rattle.std.specs.Prelude.{nat_lt}
use Rattle.std.proofs.lemmas.List.{take_more}
use Rattle.std.proofs.lemmas.List.Concat.{flat_map-append}
use Rattle.std.proofs.lemmas.List.Elements.{filter-append}
use Rattle.key_sets.specs.declared.kind.Kind.{Kind}
use Rattle.key_sets.specs.declared.parts.Parts.{Parts}
use Rattle.cert_meaning.specs.declared.items.CommitItem.{CommitItem}
use Rattle.cert_meaning.specs.State.{RiseWithin}
use Rattle.cert_meaning.proofs.HalvesLemmas.{rise_filter}
use Rattle.cert_index.specs.declared.entry.Entry.{Entry}
use Rattle.cert_index.specs.Index.{above, entered, entries_of, AreUpTo}
use Rattle.cert_index.proofs.HoldLemmas.{holds_purged}
use Rattle.certification.specs.Certifies.{commits_above}
use Rattle.certification.specs.Indexed.{IsIndexed}
use Rattle.certification.proofs.CommitsAbove.{above-all, higher-at}

abbrev entry : ℕ → Parts × Kind → Entry
entry n key = record { number = n; key = key }

-- of a commit's keys all are above a number, or none
above_keys : (to n : ℕ) (ks : List (Parts × Kind)) (b : Bool) → nat_lt to n ≡ b → above to (entries_of n ks) ≡ cond b (entries_of n ks) []
above_keys to n [] true is = refl
above_keys to n [] false is = refl
above_keys to n (k ∷ ks) true is =
    ap (λ b. cond b (entry n k ∷ above to (entries_of n ks)) (above to (entries_of n ks))) is
    ∙ ap (λ es. entry n k ∷ es) (above_keys to n ks true is)
above_keys to n (k ∷ ks) false is =
    ap (λ b. cond b (entry n k ∷ above to (entries_of n ks)) (above to (entries_of n ks))) is ∙ above_keys to n ks false is

-- the keys above a number are those of the commits above it
pub entered-above : (to : ℕ) (cs : List CommitItem) → above to (entered cs) ≡ entered (commits_above to cs)
entered-above to [] = refl
entered-above to (c ∷ cs) =
    filter-append (λ (e : Entry). nat_lt to e.number) (entries_of c.number c.keys.entries) (entered cs)
    ∙ by (entered-above to cs) (nat_lt to c.number) refl
  where
    by : above to (entered cs) ≡ entered (commits_above to cs) → (b : Bool) → nat_lt to c.number ≡ b
        → above to (entries_of c.number c.keys.entries) ++ above to (entered cs)
        ≡ entered (cond b (c ∷ commits_above to cs) (commits_above to cs))
    by rest true is = λ i. above_keys to c.number c.keys.entries true is i ++ rest i
    by rest false is = λ i. above_keys to c.number c.keys.entries false is i ++ rest i

-- the numbers are above 0, so that all keys are
pub all-entered : (most : ℕ) (cs : List CommitItem) → RiseWithin 0 most cs → above 0 (entered cs) ≡ entered cs
all-entered most cs rise = entered-above 0 cs ∙ ap entered (above-all 0 0 most cs (omega arith) rise)

-- an index that holds the commits keeps all their keys
pub held-entered : (entries : List Entry) (most : ℕ) (cs : List CommitItem) → IsIndexed most cs entries → entries ≡ entered cs
held-entered entries most cs indexed = indexed.holds ∙ all-entered most cs indexed.rise

pub indexed-entered : (entries : List Entry) (most : ℕ) (cs : List CommitItem) → RiseWithin 0 most cs → entries ≡ entered cs
    → IsIndexed most cs entries
indexed-entered entries most cs rise same = record { rise = rise; holds = same ∙ sym (all-entered most cs rise) }

-- old ones are purged
pub indexed-purged : (to most : ℕ) (cs : List CommitItem) (entries : List Entry) → IsIndexed most cs entries
    → IsIndexed most (commits_above to cs) (above to entries)
indexed-purged to most cs entries indexed =
    let rise = rise_filter 0 0 most (λ (c : CommitItem). nat_lt to c.number) cs (omega arith) indexed.rise in
    record {
      rise = rise;
      holds = holds_purged entries 0 to cs indexed.holds (omega arith)
          ∙ entered-above to cs ∙ sym (all-entered most (commits_above to cs) rise);
    }

-- ---- one more
up_to_keys : (n low : ℕ) (ks : List (Parts × Kind)) (es : List Entry) → low ≤ n → AreUpTo n es → AreUpTo n (entries_of low ks ++ es)
up_to_keys n low [] es less up = up
up_to_keys n low (k ∷ ks) es less up = (less, up_to_keys n low ks es less up)

-- no commit in front of one has a greater number
pub up_to-at : (above most : ℕ) (cs : List CommitItem) (at : ℕ) (d : CommitItem) → RiseWithin above most cs → at < length cs
    → AreUpTo (get_or cs at d).number (entered (take at cs))
up_to-at above most cs zero d rise within = tt
up_to-at above most [] (suc at) d rise within = absurd (omega (arith, within))
up_to-at above most (c ∷ cs) (suc at) d rise within =
    let higher = higher-at c.number most cs rise.2 at d (omega (arith, within)) in
    up_to_keys (get_or cs at d).number c.number c.keys.entries (entered (take at cs)) (omega (arith, higher))
    (up_to-at c.number most cs at d rise.2 (omega (arith, within)))

-- the keys of the commits so far, with those of the next
pub entered-next : (cs : List CommitItem) (at : ℕ) (d : CommitItem) → at < length cs
    → entered (take at cs) ++ entries_of (get_or cs at d).number (get_or cs at d).keys.entries ≡ entered (take (at + 1) cs)
entered-next cs at d within =
    ap (λ es. entered (take at cs) ++ es) (sym (append-nil (entries_of (get_or cs at d).number (get_or cs at d).keys.entries)))
    ∙ sym (flat_map-append (λ (x : CommitItem). entries_of x.number x.keys.entries) (take at cs) (get_or cs at d ∷ []))
    ∙ ap entered (sym (take_more cs at d within))
