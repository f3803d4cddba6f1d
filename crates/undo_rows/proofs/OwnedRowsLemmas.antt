-- the hashed table of owned rows and its links, after one entry is put in or taken out
use Rattle.std.proofs.Common.{◌≡◌, ℕ, ◌<◌, ◌==◌, Bool, true, false, cond, List, length, get_or, set, Option, Some, None, refl, sym, ◌∙◌, ap, subst, eq-eqb, ne_eqb, eqb-true, get_or-set_same, get_or-set_other, length-set}
use Rattle.std.proofs.lemmas.Bool.{eqb-false}
use Rattle.std.specs.Option.{option_map}
use Rattle.std.specs.Map.{lookup}
use Rattle.finite_map.specs.FiniteMap.{get, insert, remove}
use Rattle.finite_map.specs.Hashed.{get-hashed, hashed-same, hashed-insert, hashed-remove}
use Rattle.finite_map.specs.Links.{Linked, linked_along, link_added, newest_taken, newest_linked, none_newest}
use Rattle.row_model.specs.Rows.{row_cmp}
use Rattle.row_model.specs.RowOrder.{row_eq, row_total, row_ties, row_exact, row_same, row_itself}
use Rattle.row_model.specs.declared.row.RowId.{RowId}
use Rattle.undo_rows.specs.RowTable.{is_owned_by, other_owner}
use Rattle.undo_rows.specs.OwnedRows.{before_in, change_of, changes_in, link_of, links, AreLinked}
use Rattle.undo_rows.specs.declared.owned_rows.OwnedRow.{OwnedRow}

abbrev pub Entries : Type 0
Entries = List (RowId × OwnedRow)

pub get-changes_in : (es : Entries) (q : RowId) → get (changes_in es) q ≡ option_map change_of (lookup (row_eq q) es)
get-changes_in es q = get-hashed row_cmp row_eq row_ties change_of row_total es q

module _ (es fs : Entries) where
  pub same_changes : ((q : RowId) → lookup (row_eq q) fs ≡ lookup (row_eq q) es) → changes_in fs ≡ changes_in es
  same_changes is = hashed-same row_cmp row_eq row_ties change_of row_total row_exact es fs is

  pub same_links : (newest : List (Option RowId)) → ((q : RowId) → lookup (row_eq q) fs ≡ lookup (row_eq q) es)
      → AreLinked es newest → AreLinked fs newest
  same_links newest is kept = record {
    owners = kept.owners;
    linked = λ o h. linked_along (links es o) (links fs o) _ (λ q. ap (link_of o) (is q)) (kept.linked o h);
  }

  pub changes_set : (id : RowId) (entry : OwnedRow)
      → ((q : RowId) → lookup (row_eq q) fs ≡ cond (row_eq id q) (Some entry) (lookup (row_eq q) es))
      → changes_in fs ≡ insert (changes_in es) id (change_of entry)
  changes_set id entry is = hashed-insert row_cmp row_eq row_ties change_of row_total row_exact es fs id entry is

  pub changes_taken : (id : RowId)
      → ((q : RowId) → lookup (row_eq q) fs ≡ cond (row_eq id q) None (lookup (row_eq q) es))
      → changes_in fs ≡ remove (changes_in es) id
  changes_taken id is = hashed-remove row_cmp row_eq row_ties change_of row_total row_exact es fs id is

-- only the link at `id` could differ, and does not
kept_link : (es : Entries) (o : ℕ) (id q : RowId) (w : Option OwnedRow) (b : Bool) → row_eq id q ≡ b
    → link_of o w ≡ link_of o (lookup (row_eq id) es)
    → link_of o (cond b w (lookup (row_eq q) es)) ≡ link_of o (lookup (row_eq q) es)
kept_link es o id q w true e same = same ∙ ap (λ x. link_of o (lookup (row_eq x) es)) (row_same id q e)
kept_link es o id q w false e same = refl

own_link : (owner : ℕ) (e : OwnedRow) → e.owner ≡ owner → link_of owner (Some e) ≡ Some e.before
own_link owner e is = ap (λ b. cond b (Some e.before) None) (eq-eqb e.owner owner is)

other_link : (o : ℕ) (e : OwnedRow) → (e.owner ≡ o → ⊥) → link_of o (Some e) ≡ None
other_link o e is_not = ap (λ b. cond b (Some e.before) None) (ne_eqb e.owner o is_not)

moved_link : (o : ℕ) (b : Bool) (w : Option OwnedRow) (next : Option (Option RowId)) (before : Option OwnedRow)
    → link_of o w ≡ next → link_of o (cond b w before) ≡ cond b next (link_of o before)
moved_link o true w next before is = is
moved_link o false w next before is = refl

-- the owner of an entry whose link is there
owner_linked : (o : ℕ) (e : OwnedRow) (next : Option RowId) (b : Bool) → (e.owner == o) ≡ b
    → cond b (Some e.before) None ≡ Some next → (e.owner ≡ o) × (e.before ≡ next)
owner_linked o e next true t is = (eqb-true e.owner o t, cc)
owner_linked o e next false t is = cc

owner_found : (o : ℕ) (w : Option OwnedRow) (next : Option RowId) → link_of o w ≡ Some next
    → (e : OwnedRow) × (w ≡ Some e) × (e.owner ≡ o) × (e.before ≡ next)
owner_found o None next is = cc
owner_found o (Some e) next is =
    let l = owner_linked o e next (e.owner == o) refl is in (e, refl, l.0, l.1)

same_owner : (owner : ℕ) (old : OwnedRow) (b : Bool) → (old.owner == owner) ≡ b → cond b None (Some old.owner) ≡ None → owner ≡ old.owner
same_owner owner old true e free = sym (eqb-true old.owner owner e)
same_owner owner old false e free = cc

module _ (es fs : Entries) (newest : List (Option RowId)) (kept : AreLinked es newest) (id : RowId) (entry : OwnedRow) where
  -- an owner sets a row that it has
  pub links_replaced : (old : OwnedRow) → lookup (row_eq id) es ≡ Some old → other_owner entry.owner (get (changes_in es) id) ≡ None
      → entry.before ≡ before_in (lookup (row_eq id) es) (get_or newest entry.owner None)
      → ((q : RowId) → lookup (row_eq q) fs ≡ cond (row_eq id q) (Some entry) (lookup (row_eq q) es))
      → AreLinked fs newest
  links_replaced old was free leads is =
      let owner : entry.owner ≡ old.owner = same_owner entry.owner old (old.owner == entry.owner) refl
      (sym (ap (other_owner entry.owner) (get-changes_in es id ∙ ap (option_map change_of) was)) ∙ free) in
      let before : entry.before ≡ old.before = leads ∙ ap (λ w. before_in w (get_or newest entry.owner None)) was in
      let same : (o : ℕ) → link_of o (Some entry) ≡ link_of o (lookup (row_eq id) es) =
      λ o. ap (λ n. cond (n == o) (Some entry.before) None) owner ∙ ap (λ b. cond (old.owner == o) (Some b) None) before
      ∙ ap (link_of o) (sym was) in
      record {
        owners = kept.owners;
        linked = λ o h. linked_along (links es o) (links fs o) _
            (λ q. ap (link_of o) (is q) ∙ kept_link es o id q (Some entry) (row_eq id q) refl (same o)) (kept.linked o h);
      }

  -- an owner gets a row that nobody has
  set_for : lookup (row_eq id) es ≡ None → entry.owner < 256 → entry.before ≡ before_in (lookup (row_eq id) es) (get_or newest entry.owner None)
      → ((q : RowId) → lookup (row_eq q) fs ≡ cond (row_eq id q) (Some entry) (lookup (row_eq q) es))
      → (o : ℕ) → o < 256 → (b : Bool) → (entry.owner == o) ≡ b
      → Linked (links fs o) (get_or (set newest entry.owner (Some id)) o None)
  set_for fresh below before is o h true e =
      let same : entry.owner ≡ o = eqb-true entry.owner o e in
      let room : entry.owner < length newest = rw kept.owners below in
      let now : get_or (set newest entry.owner (Some id)) o None ≡ Some id =
      ap (λ n. get_or (set newest entry.owner (Some id)) n None) (sym same)
      ∙ get_or-set_same newest entry.owner (Some id) None room in
      let leads : entry.before ≡ get_or newest entry.owner None =
      before ∙ ap (λ w. before_in w (get_or newest entry.owner None)) fresh in
      let was : link_of o (Some entry) ≡ Some (get_or newest o None) =
      own_link o entry same ∙ ap Some (leads ∙ ap (λ n. get_or newest n None) same) in
      subst (Linked (links fs o)) (sym now)
      (link_added (links es o) (links fs o) id (row_eq id) (λ q t. sym (row_same id q t)) (row_itself id)
      (get_or newest o None) (ap (link_of o) fresh)
      (λ q. ap (link_of o) (is q) ∙ moved_link o (row_eq id q) (Some entry) _ _ was)
      (kept.linked o h))
  set_for fresh below before is o h false e =
      let apart : o ≡ entry.owner → ⊥ = λ same. eqb-false entry.owner o e (sym same) in
      let there : get_or newest o None ≡ get_or (set newest entry.owner (Some id)) o None =
      sym (get_or-set_other newest entry.owner o (Some id) None apart) in
      let same : link_of o (Some entry) ≡ link_of o (lookup (row_eq id) es) =
      other_link o entry (λ t. apart (sym t)) ∙ ap (link_of o) (sym fresh) in
      subst (Linked (links fs o)) there
      (linked_along (links es o) (links fs o) _
      (λ q. ap (link_of o) (is q) ∙ kept_link es o id q (Some entry) (row_eq id q) refl same) (kept.linked o h))

  pub links_set : lookup (row_eq id) es ≡ None → entry.owner < 256 → entry.before ≡ before_in (lookup (row_eq id) es) (get_or newest entry.owner None)
      → ((q : RowId) → lookup (row_eq q) fs ≡ cond (row_eq id q) (Some entry) (lookup (row_eq q) es))
      → AreLinked fs (set newest entry.owner (Some id))
  links_set fresh below before is = record {
    owners = length-set newest entry.owner (Some id) ∙ kept.owners;
    linked = λ o h. set_for fresh below before is o h (entry.owner == o) refl;
  }

not_linked : (before : Option RowId) (t : Bool) → cond t (Some before) None ≡ None → t ≡ false
not_linked before true is = cc
not_linked before false is = refl

unowned : (o : ℕ) (w : Option OwnedRow) → link_of o w ≡ None → is_owned_by o (option_map change_of w) ≡ false
unowned o None is = refl
unowned o (Some e) is = not_linked e.before (e.owner == o) is

module _ (es : Entries) (newest : List (Option RowId)) (kept : AreLinked es newest) (owner : ℕ) (below : owner < 256) where
  -- the newest row of an owner is there, and is its own
  pub newest_found : (id : RowId) → get_or newest owner None ≡ Some id
      → (e : OwnedRow) × (lookup (row_eq id) es ≡ Some e) × (e.owner ≡ owner)
  newest_found id is =
      let linked = subst (Linked (links es owner)) is (kept.linked owner below) in
      let next = newest_linked (links es owner) id linked in
      let found = owner_found owner (lookup (row_eq id) es) next.0 next.1 in
      (found.0, found.1, found.2)

  -- an owner without a newest row has none
  pub none_owned : get_or newest owner None ≡ None → (q : RowId) → is_owned_by owner (get (changes_in es) q) ≡ false
  none_owned is q =
      let linked = subst (Linked (links es owner)) is (kept.linked owner below) in
      ap (is_owned_by owner) (get-changes_in es q)
      ∙ unowned owner (lookup (row_eq q) es) (none_newest (links es owner) linked q)

module _ (es fs : Entries) (newest : List (Option RowId)) (kept : AreLinked es newest) (id : RowId) (e : OwnedRow)
    (was : lookup (row_eq id) es ≡ Some e) (below : e.owner < 256) (first : get_or newest e.owner None ≡ Some id)
    (is : (q : RowId) → lookup (row_eq q) fs ≡ cond (row_eq id q) None (lookup (row_eq q) es)) where
  taken_for : (o : ℕ) → o < 256 → (b : Bool) → (e.owner == o) ≡ b
      → Linked (links fs o) (get_or (set newest e.owner e.before) o None)
  taken_for o h true t =
      let same : e.owner ≡ o = eqb-true e.owner o t in
      let room : e.owner < length newest = rw kept.owners below in
      let now : get_or (set newest e.owner e.before) o None ≡ e.before =
      ap (λ n. get_or (set newest e.owner e.before) n None) (sym same)
      ∙ get_or-set_same newest e.owner e.before None room in
      let old : Linked (links es o) (Some id) =
      subst (Linked (links es o)) (ap (λ n. get_or newest n None) (sym same) ∙ first) (kept.linked o h) in
      subst (Linked (links fs o)) (sym now)
      (newest_taken (links es o) (links fs o) id (row_eq id) (λ q u. sym (row_same id q u)) (row_itself id)
      e.before (ap (link_of o) was ∙ own_link o e same)
      (λ q. ap (link_of o) (is q) ∙ moved_link o (row_eq id q) None None _ refl) old)
  taken_for o h false t =
      let apart : o ≡ e.owner → ⊥ = λ same. eqb-false e.owner o t (sym same) in
      let there : get_or newest o None ≡ get_or (set newest e.owner e.before) o None =
      sym (get_or-set_other newest e.owner o e.before None apart) in
      let same : link_of o None ≡ link_of o (lookup (row_eq id) es) =
      sym (ap (link_of o) was ∙ other_link o e (λ u. apart (sym u))) in
      subst (Linked (links fs o)) there
      (linked_along (links es o) (links fs o) _
      (λ q. ap (link_of o) (is q) ∙ kept_link es o id q None (row_eq id q) refl same) (kept.linked o h))

  -- an owner's newest row goes
  pub links_taken : AreLinked fs (set newest e.owner e.before)
  links_taken = record {
    owners = length-set newest e.owner e.before ∙ kept.owners;
    linked = λ o h. taken_for o h (e.owner == o) refl;
  }
