-- The links of each holder's keys, after a key is added and after a holder is taken out.
use Rattle.std.proofs.Common.{◌≡◌, ℕ, ◌≤◌, Bool, true, false, ◌&&◌, cond, List, [], Option, None, Some, refl, sym, ap, subst, ◌∙◌, arith}
use Rattle.std.specs.Prelude.{is_some}
use Rattle.std.specs.Option.{option_map}
use Rattle.std.specs.Map.{lookup}
use Rattle.finite_map.specs.Links.{Linked, none_linked, linked_along, link_added, none_newest, newest_linked, newest_taken}
use Rattle.key_sets.specs.declared.parts.Parts.{Parts}
use Rattle.key_sets.specs.Parts.{parts_eq}
use Rattle.row_locks.specs.declared.holder.Holder.{Holder}
use Rattle.row_locks.specs.declared.holder.Holder.TheVariants.{Session}
use Rattle.row_locks.specs.declared.holder_index.HolderIndex.{HolderIndex}
use Rattle.row_locks.specs.declared.lock_table.LockKey.{LockKey}
use Rattle.row_locks.specs.declared.lock_table.Lock.{Lock}
use Rattle.row_locks.specs.HolderIndex.{IsIndex, has_number}
use Rattle.row_locks.specs.Holders.{same_holder}
use Rattle.row_locks.specs.LockKeys.{holder_eq, lock_eq, key_of}
use Rattle.row_locks.specs.LockTable.{DropsAll, Entries, links, IsIndexOf, IsLockTable, last_with}
use Rattle.row_locks.proofs.HolderLemmas.{cond-ap, holder_eq-exact, holder_eq-itself, holder_ties, same_holder-exact}
use Rattle.row_locks.proofs.TableLemmas.{lock_eq-exact, parts_eq-exact, parts_eq-itself}

abbrev link_in : Option Lock → Option (Option Parts)
link_in o = option_map (λ lock. lock.before) o

has_link : (o : Option Lock) → is_some (link_in o) ≡ is_some o
has_link o = grind arith

pub no_link : (o : Option Lock) → link_in o ≡ None → o ≡ None
no_link o none = grind arith

was_there : (gone : Bool) (o p : Option Lock) → o ≡ cond gone None p → is_some o ≡ true
    → is_some p ≡ true
was_there gone o p is there = grind arith

keeps_link : (new : Bool) (o p : Option Lock) (lock old : Lock) → o ≡ cond new (Some lock) p
    → (new ≡ true → p ≡ Some old) → lock.before ≡ old.before → link_in o ≡ link_in p
keeps_link new o p lock old is was same = grind arith

session_within : (h : Holder) (last n : ℕ) (new there : Bool) → (new ≡ true → h ≡ Session n)
    → (there ≡ true → n ≤ last) → cond new true there ≡ true → n ≤ last_with last h
session_within h last n new there own within is = grind arith

stays : (own eq here : Bool) (o p : Option Lock) → eq ≡ own → o ≡ cond (eq && here) None p
    → cond own None o ≡ cond own None p
stays own eq here o p ties is = grind arith

goes : (own : Bool) (o p : Option Lock) → (own ≡ true → o ≡ None)
    → cond own None o ≡ cond own None p → o ≡ cond own None p
goes own o p none same = grind arith

-- all links are gone, or as they were
linked_unless : (gone : Bool) (before after : Parts → Option (Option Parts)) (o p : Option Parts)
    → ((r : Parts) → after r ≡ cond gone None (before r)) → p ≡ cond gone None o
    → Linked before o → Linked after p
linked_unless true before after o p is to linked =
    subst (Linked after) (sym to) (none_linked after is)
linked_unless false before after o p is to linked =
    subst (Linked after) (sym to) (linked_along before after o is linked)

module _ (es fs : Entries) (newest newer : List (Holder × Parts)) (a b : HolderIndex) (last : ℕ)
    (table : IsLockTable es newest a last) where
  -- the same links
  pub table_along : ((h : Holder) (r : Parts) → links fs h r ≡ links es h r)
      → ((g : Holder) → lookup (holder_eq g) newer ≡ lookup (holder_eq g) newest)
      → IsIndex b → ((q : LockKey) → has_number b q ≡ has_number a q) → IsLockTable fs newer b last
  table_along is news indexed same = record {
    linked = λ h.
        linked_unless false (links es h) (links fs h) _ _ (is h) (news h) (table.linked h);
    indexed = record {
      numbered = indexed;
      same = λ q. same q ∙ table.indexed.same q ∙ sym (there q);
    };
    sessions = λ n p e. table.sessions n p (sym (there (key_of (Session n) p)) ∙ e);
  }
    where
      there : (q : LockKey) → is_some (lookup (lock_eq q) fs) ≡ is_some (lookup (lock_eq q) es)
      there q =
          sym (has_link (lookup (lock_eq q) fs)) ∙ ap is_some (is q.holder q.parts)
          ∙ has_link (lookup (lock_eq q) es)

  -- the same look-ups, whatever the order of the entries
  pub table_same : ((q : LockKey) → lookup (lock_eq q) fs ≡ lookup (lock_eq q) es)
      → ((g : Holder) → lookup (holder_eq g) newer ≡ lookup (holder_eq g) newest)
      → IsIndex b → ((q : LockKey) → has_number b q ≡ has_number a q) → IsLockTable fs newer b last
  table_same is = table_along (λ h r. ap link_in (is (key_of h r)))

  -- a holder is taken out
  pub table_removed : (h : Holder) → DropsAll h es fs
      → ((g : Holder)
      → lookup (holder_eq g) newer ≡ cond (holder_eq h g) None (lookup (holder_eq g) newest))
      → IsIndexOf b fs → IsLockTable fs newer b last
  table_removed h is news indexed = record {
    linked = λ g. linked_unless (same_holder h g) (links es g) (links fs g) _ _
        (λ r. ap link_in (is (key_of g r)) ∙ cond-ap link_in (same_holder h g) None _)
        (news g ∙ ap (λ c. cond c None (lookup (holder_eq g) newest)) (holder_ties h g))
        (table.linked g);
    indexed = indexed;
    sessions = λ n p e. table.sessions n p
        (was_there (same_holder h (Session n)) _ _ (is (key_of (Session n) p)) e);
  }

  module _ (h : Holder) (p : Parts) (lock : Lock) (is : (q : LockKey) → lookup (lock_eq q) fs
      ≡ cond (lock_eq (key_of h p) q) (Some lock) (lookup (lock_eq q) es)) where
    -- a key that its holder has keeps its link
    pub table_replaced : (old : Lock) → lookup (lock_eq (key_of h p)) es ≡ Some old
        → lock.before ≡ old.before
        → ((g : Holder) → lookup (holder_eq g) newer ≡ lookup (holder_eq g) newest)
        → IsIndex b → ((q : LockKey) → has_number b q ≡ has_number a q)
        → IsLockTable fs newer b last
    table_replaced old was same =
        table_along (λ g r.
        keeps_link (lock_eq (key_of h p) (key_of g r)) _ _ lock old (is (key_of g r))
        (λ e. subst (λ q. lookup (lock_eq q) es ≡ Some old)
        (lock_eq-exact (key_of h p) (key_of g r) e) was) same)

    link_at : (g : Holder) (r : Parts)
        → links fs g r ≡ cond (holder_eq h g && parts_eq p r) (Some lock.before) (links es g r)
    link_at g r =
        ap link_in (is (key_of g r))
        ∙ cond-ap link_in (lock_eq (key_of h p) (key_of g r)) (Some lock) _

    -- a key that its holder gets is its newest
    pub table_added : lookup (lock_eq (key_of h p)) es ≡ None
        → lock.before ≡ lookup (holder_eq h) newest
        → ((g : Holder)
        → lookup (holder_eq g) newer ≡ cond (holder_eq h g) (Some p) (lookup (holder_eq g) newest))
        → IsIndex b
        → ((q : LockKey) → has_number b q ≡ cond (lock_eq (key_of h p) q) true (has_number a q))
        → IsLockTable fs newer b (last_with last h)
    table_added fresh leads news indexed numbers = record {
      linked = λ g. linked_at g (holder_eq h g) refl;
      indexed = record {
        numbered = indexed;
        same = λ q. numbers q ∙ ap (cond (lock_eq (key_of h p) q) true) (table.indexed.same q)
            ∙ sym (there q);
      };
      sessions = λ n r e.
          let key = key_of (Session n) r in
          session_within h last n (lock_eq (key_of h p) key) _
          (λ f. ap (λ (k : LockKey). k.holder) (lock_eq-exact (key_of h p) key f))
          (table.sessions n r) (sym (there key) ∙ e);
    }
      where
        there : (q : LockKey) → is_some (lookup (lock_eq q) fs)
            ≡ cond (lock_eq (key_of h p) q) true (is_some (lookup (lock_eq q) es))
        there q = ap is_some (is q) ∙ cond-ap is_some (lock_eq (key_of h p) q) (Some lock) _

        own : Linked (links fs h) (Some p)
        own =
            link_added (links es h) (links fs h) p (parts_eq p) (λ r e. sym (parts_eq-exact p r e))
            (parts_eq-itself p) lock.before (ap link_in fresh)
            (λ r. link_at h r
            ∙ ap (λ c. cond (c && parts_eq p r) (Some lock.before) (links es h r))
            (holder_eq-itself h))
            (subst (Linked (links es h)) (sym leads) (table.linked h))

        linked_at : (g : Holder) (c : Bool) → holder_eq h g ≡ c
            → Linked (links fs g) (lookup (holder_eq g) newer)
        linked_at g true e =
            subst (Linked (links fs g))
            (sym (news g ∙ ap (λ c. cond c (Some p) (lookup (holder_eq g) newest)) e))
            (subst (λ x. Linked (links fs x) (Some p)) (holder_eq-exact h g e) own)
        linked_at g false e =
            linked_unless false (links es g) (links fs g) _ _
            (λ r. link_at g r
            ∙ ap (λ c. cond (c && parts_eq p r) (Some lock.before) (links es g r)) e)
            (news g ∙ ap (λ c. cond c (Some p) (lookup (holder_eq g) newest)) e) (table.linked g)

-- a holder's next key is there
pub next_found : (es : Entries) (h : Holder) (p : Parts) → Linked (links es h) (Some p)
    → lookup (lock_eq (key_of h p)) es ≡ None → ⊥
next_found es h p linked none =
    let next = newest_linked (links es h) p linked in
    let e = next.1 in let f = ap link_in none in cc

module _ (es fs : Entries) (h : Holder) (p : Parts)
    (is : (q : LockKey)
    → lookup (lock_eq q) fs ≡ cond (lock_eq (key_of h p) q) None (lookup (lock_eq q) es)) where
  -- without a holder's next key, the one that it leads to leads through the rest
  pub next_taken : (lock : Lock) → lookup (lock_eq (key_of h p)) es ≡ Some lock
      → Linked (links es h) (Some p) → Linked (links fs h) lock.before
  next_taken lock was linked =
      newest_taken (links es h) (links fs h) p (parts_eq p) (λ r e. sym (parts_eq-exact p r e))
      (parts_eq-itself p) lock.before (ap link_in was) (λ r.
      ap link_in (is (key_of h r)) ∙ cond-ap link_in (lock_eq (key_of h p) (key_of h r)) None _
      ∙ ap (λ b. cond (b && parts_eq p r) None (links es h r)) (holder_eq-itself h))
      linked

  -- and other holders' locks stay
  pub others_stay : (q : LockKey)
      → cond (same_holder h q.holder) None (lookup (lock_eq q) fs)
      ≡ cond (same_holder h q.holder) None (lookup (lock_eq q) es)
  others_stay q =
      stays (same_holder h q.holder) (holder_eq h q.holder) (parts_eq p q.parts) _ _
      (holder_ties h q.holder) (is q)

  -- the index is of the locks that are left
  pub index_left : (a b : HolderIndex) → IsIndexOf a es → IsIndex b
      → ((q : LockKey) → has_number b q ≡ cond (lock_eq (key_of h p) q) false (has_number a q))
      → IsIndexOf b fs
  index_left a b indexed numbered numbers = record {
    numbered = numbered;
    same = λ q.
        numbers q ∙ ap (cond (lock_eq (key_of h p) q) false) (indexed.same q)
        ∙ sym (ap is_some (is q) ∙ cond-ap is_some (lock_eq (key_of h p) q) None _);
  }

-- in the end the holder has no lock, and other holders' stand as they did
pub all_taken : (es fs : Entries) (h : Holder) → Linked (links fs h) None
    → ((q : LockKey)
    → cond (same_holder h q.holder) None (lookup (lock_eq q) fs)
    ≡ cond (same_holder h q.holder) None (lookup (lock_eq q) es)) → DropsAll h es fs
all_taken es fs h linked others q =
    goes (same_holder h q.holder) _ _
    (λ e. subst (λ g. lookup (lock_eq (key_of g q.parts)) fs ≡ None)
    (same_holder-exact h q.holder e) (no_link _ (none_newest (links fs h) linked q.parts)))
    (others q)

-- no locks
pub table_empty : (es : Entries) (newest : List (Holder × Parts)) (a : HolderIndex) → es ≡ []
    → newest ≡ [] → IsIndex a → ((q : LockKey) → has_number a q ≡ false) → IsLockTable es newest a 0
table_empty es newest a none nobody numbered numbers =
    subst (λ fs. IsLockTable fs newest a 0) (sym none)
    (subst (λ news. IsLockTable [] news a 0) (sym nobody) (record {
      linked = λ h. none_linked (links [] h) (λ r. refl);
      indexed = record { numbered = numbered; same = numbers };
      sessions = λ n p e. cc;
    }))
