-- What a step does to the commits of a state and to their index.
use Rattle.std.proofs.Common.{ℕ, ◌≤◌, ◌<◌, Bool, true, false, cond, List, [], ◌∷◌, ◌++◌, sym, subst, arith}
use Rattle.std.specs.Prelude.{filter, nat_lt}
use Rattle.std.specs.List.{AllByRecursion}
use Rattle.key_sets.specs.declared.kind.Kind.{Kind}
use Rattle.key_sets.specs.declared.parts.Parts.{Parts}
use Rattle.cert_meaning.specs.declared.items.CommitItem.{CommitItem}
use Rattle.cert_meaning.specs.State.{RiseWithin}
use Rattle.cert_meaning.proofs.CommitLaws.{rise-append, rise-more}
use Rattle.cert_index.specs.declared.entry.Entry.{Entry}
use Rattle.cert_index.specs.Index.{entered, entries_of, AreUpTo}
use Rattle.cert_index.proofs.HoldLemmas.{holds_entered}
use Rattle.certification.specs.Indexed.{IsIndexed}

-- ---- no entry of the commits is above the number of the state
up_to_both : (n : ℕ) (es fs : List Entry) → AreUpTo n es → AreUpTo n fs → AreUpTo n (es ++ fs)
up_to_both n [] fs one other = other
up_to_both n (e ∷ es) fs one other = (one.0, up_to_both n es fs one.1 other)

up_to_keys : (n number : ℕ) (keys : List (Parts × Kind)) → number ≤ n → AreUpTo n (entries_of number keys)
up_to_keys n number [] below = tt
up_to_keys n number (key ∷ keys) below = (below, up_to_keys n number keys below)

up_to_kept : (n : ℕ) (test : Entry → Bool) (es : List Entry) → AreUpTo n es → AreUpTo n (filter test es)
up_to_kept n test [] all = tt
up_to_kept n test (e ∷ es) all = by (test e) (up_to_kept n test es all.1)
  where
    by : (b : Bool) → AreUpTo n (filter test es) → AreUpTo n (cond b (e ∷ filter test es) (filter test es))
    by true rest = (all.0, rest)
    by false rest = rest

up_to_entered : (low n : ℕ) (commits : List CommitItem) → RiseWithin low n commits → AreUpTo n (entered commits)
up_to_entered low n [] rise = tt
up_to_entered low n (c ∷ cs) rise =
    up_to_both n (entries_of c.number c.keys.entries) (entered cs) (up_to_keys n c.number c.keys.entries rise.1)
    (up_to_entered c.number n cs rise.2)

-- a commit with a greater number can be entered
pub can_enter : (number next : ℕ) (commits : List CommitItem) (entries : List Entry) → number ≤ next
    → IsIndexed number commits entries → AreUpTo next entries
can_enter number next commits entries below is =
    subst (AreUpTo next) (sym is.holds)
    (up_to_kept next (λ (e : Entry). nat_lt 0 e.number) (entered commits)
    (up_to_entered 0 next commits (rise-more 0 number next commits below is.rise)))

-- ---- the commits stay those of the index
-- one more event that is no commit
pub indexed-more : (number next : ℕ) (commits : List CommitItem) (entries : List Entry) → number ≤ next
    → IsIndexed number commits entries → IsIndexed next commits entries
indexed-more number next commits entries below is =
    record { rise = rise-more 0 number next commits below is.rise; holds = is.holds }

-- one more commit
pub indexed-commit : (number : ℕ) (commits : List CommitItem) (entries : List Entry) (commit : CommitItem)
    → number < commit.number → IsIndexed number commits entries
    → IsIndexed commit.number (commits ++ commit ∷ []) (entries ++ entries_of commit.number commit.keys.entries)
indexed-commit number commits entries commit below is = record {
  rise = rise-append 0 number commits commit (omega arith) below is.rise;
  holds = holds_entered entries 0 commits commit is.holds (omega (arith, below));
}
