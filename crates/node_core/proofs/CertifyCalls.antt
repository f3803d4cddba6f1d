-- Certifying the next event does what the model does.
use Rattle.std.proofs.Common.{◌≡◌, ℕ, ◌≤◌, Bool, true, false, cond, Option, None, Some, refl, ap, sym, subst, ◌∙◌}
use Rattle.std.specs.Prelude.{◌==◌, option_map}
use Rattle.std.specs.Ordering.{nat_cmp}
use Rattle.std.proofs.lemmas.Option.{same_Some}
use Rattle.finite_map.proofs.Edits.{numbers, insert-there, insert-remove}
use Rattle.finite_map.specs.FiniteMap.{FiniteMap, get, insert, remove}
use Rattle.wsrep_base.specs.declared.verdict.Verdict.{Verdict}
use Rattle.wsrep_base.specs.declared.verdict.Verdict.TheVariants as verdict
use Rattle.row_model.specs.declared.calls.Reply.{Reply}
use Rattle.row_locks.specs.declared.holder.Holder.TheVariants.{Session}
use Rattle.row_locks.specs.Alike.{HoldAlike}
use Rattle.row_locks.specs.Locks.{LockState}
use Rattle.client_trx.specs.declared.status.Status.{Status}
use Rattle.client_trx.specs.declared.status.Status.TheVariants as status
use Rattle.client_trx.specs.declared.status.Outcome.{Outcome}
use Rattle.client_trx.specs.declared.status.Outcome.TheVariants.{Lives, Ends}
use Rattle.client_trx.specs.Live.{Live, has_locks, is_sent, passed_status, judged_by}
use Rattle.undo_rows.specs.RowTable.{RowTable, without}
use Rattle.node_meaning.specs.Node.{ModelNode, rows_at, end_live}
use Rattle.node_meaning.specs.Steps.{told, told_verdict, session_of}
use Rattle.node_meaning.proofs.EntryLaws.{entry_found, some_not_none}
use Rattle.node_meaning.proofs.LockLaws.{locks_of-same}
use Rattle.node_core.specs.declared.node.NodeParts.{NodeParts}
use Rattle.node_core.proofs.Standing.{ring_by}
use Rattle.node_core.proofs.ClientCalls.{moves_ended}
use Rattle.node_core.specs.Tabled.{made_by}
use Rattle.node_core.specs.Stands.{Moves, plain_of}
use Rattle.node_core.proofs.Tabling.{made-alike, put_at, tabled-left}

-- ---- what a verdict leaves of a transaction that lives on
record Same (t u : Live) : Type 0 where
  locks : has_locks u.status ≡ has_locks t.status
  keys : u.keys ≡ t.keys
  ops : u.ops ≡ t.ops

pub not_ended : (u t : Live) (r : Reply) → ◌≡◌ {A = Outcome × Live} (Lives, u) (Ends r, t) → ⊥
not_ended u t r is = let outcome = ap (λ (r : Outcome × Live). r.0) is in cc

itself : (t u : Live) → u ≡ t → Same t u
itself t u is = rw is (record { locks = refl; keys = refl; ops = refl })

passed_locks : (number : ℕ) (s : Status) → is_sent s ≡ true
    → has_locks (passed_status number s) ≡ has_locks s
passed_locks number status.FragmentSent waits = refl
passed_locks number _ waits = cc

judged_same : (number : ℕ) (v : Verdict) (t u : Live) → is_sent t.status ≡ true
    → (Lives, u) ≡ judged_by number v t → Same t u
judged_same number verdict.Pass t u waits is =
    let same = ap (λ (r : Outcome × Live). r.1) is in
    rw same (record { locks = passed_locks number t.status waits; keys = refl; ops = refl })
judged_same number (verdict.Conflict n) t u waits is = absurd (not_ended u _ _ is)
judged_same number (verdict.Held n) t u waits is = absurd (not_ended u _ _ is)
judged_same number _ t u waits is = itself t u (ap (λ (r : Outcome × Live). r.1) is)

-- ---- the verdict
pub two_ways : {P : Type 0} (b : Bool) → (b ≡ true → P) → (b ≡ false → P) → P
two_ways true locked free = locked refl
two_ways false locked free = free refl

pub found_entry : (o : Option (ℕ × Live)) (session : ℕ) → option_map (λ e. e.0) o ≡ Some session → (t : Live) × (o ≡ Some (session, t))
found_entry None session is = absurd cc
found_entry (Some e) session is = (e.1, ap (λ k. Some (k, e.1)) (same_Some e.0 session is))

nothing_found : (o : Option (ℕ × Live)) → option_map (λ e. e.0) o ≡ None → o ≡ None
nothing_found None is = refl
nothing_found (Some e) is = absurd cc

module _ (old : NodeParts) (begin number : ℕ) (v : Verdict) where
  abbrev pub tells : ModelNode → ModelNode
  tells n = told_verdict n number v (session_of n.live begin)

  stays : told_verdict (plain_of old) number v (session_of old.live begin) ≡ plain_of old → Moves tells old old
  stays same = record { plain = sym same; inbox = refl; ring = ring_by old old refl; certification = refl; tables = λ order tables. tables }

  -- no transaction has the number
  pub tell_none : option_map (λ e. e.0) (session_of old.live begin) ≡ None → Moves tells old old
  tell_none none = stays (ap (told_verdict (plain_of old) number v) (nothing_found (session_of old.live begin) none))

  module _ (session : ℕ) (found : option_map (λ e. e.0) (session_of old.live begin) ≡ Some session) where
    there_by : (e : (t : Live) × (session_of old.live begin ≡ Some (session, t))) → get old.live session ≡ Some e.0
    there_by e = (entry_found old.live (λ e. e.1.trx.begin == begin) (session, e.0) e.1).there

    -- the transaction is there
    pub tell_there : get old.live session ≡ None → ⊥
    tell_there none = let e = found_entry (session_of old.live begin) session found in some_not_none e.0 (get old.live session) (there_by e) none

    module _ (t : Live) (is : get old.live session ≡ Some t) where
      found_is : session_of old.live begin ≡ Some (session, t)
      found_is =
          let e = found_entry (session_of old.live begin) session found in
          e.1 ∙ ap (λ u. Some (session, u)) (same_Some e.0 t (sym (there_by e) ∙ is))

      by_status : (b : Bool) → is_sent t.status ≡ b
          → tells (plain_of old) ≡ cond b (told (plain_of old) session (judged_by number v t)) (plain_of old)
      by_status b sent =
          ap (told_verdict (plain_of old) number v) found_is
          ∙ ap (λ b. cond b (told (plain_of old) session (judged_by number v t)) (plain_of old)) sent

      -- it waits for no verdict, and is put back
      pub tell_put_back : is_sent t.status ≡ false → (live : FiniteMap nat_cmp Live) → live ≡ insert (remove old.live session) session t
          → Moves tells old (record old { live = live })
      tell_put_back idle live put =
          let same : live ≡ old.live = put ∙ insert-remove numbers old.live session t ∙ insert-there numbers old.live session t is in
          subst (λ l. Moves tells old (record old { live = l })) (sym same) (stays (by_status false idle))

      module _ (sent : is_sent t.status ≡ true) where
        -- it lives on
        pub tell_lives : (u : Live) → (Lives, u) ≡ judged_by number v t
            → (live : FiniteMap nat_cmp Live) → live ≡ insert (remove old.live session) session u
            → Moves tells old (record old { live = live })
        tell_lives u judged live put =
            let same = judged_same number v t u sent judged in
            rw (put, insert-remove numbers old.live session u) (record {
              plain = sym (by_status true sent ∙ ap (told (plain_of old) session) (sym judged));
              inbox = refl;
              ring = record { ring = refl; since = refl; id = refl };
              certification = refl;
              tables = λ order tables.
                  let base = rows_at order old.at.committed in record {
                    locks = subst (HoldAlike old.locks.locks)
                        (sym (locks_of-same old.live old.units.units session t u is same.locks
                        same.keys)) tables.locks;
                    rows = tabled-left base old.live old.rows old.rows tables.rows
                        (insert old.live session u) session (Some u) (put_at old.live session u)
                        (λ id. made-alike base id u t same.locks same.ops
                        ∙ ap (made_by base id) (sym is)) refl refl;
                    units = tables.units;
                    room = tables.room;
                  };
            })

        -- it ends
        pub tell_ends : (reply : Reply) (u : Live) → (Ends reply, u) ≡ judged_by number v t
            → (live : FiniteMap nat_cmp Live) (waiting : FiniteMap nat_cmp Reply)
            (locks : LockState) (rows : RowTable) → live ≡ remove old.live session
            → waiting ≡ insert old.waiting session reply
            → locks.locks ≡ remove old.locks.locks (Session session)
            → rows.committed ≡ old.rows.committed → rows.changes ≡ without old.rows.changes session
            → old.rows.spare ≤ rows.spare → Moves tells old (record old {
              live = live;
              waiting = waiting;
              locks = locks;
              rows = rows;
            })
        tell_ends reply u judged live waiting locks rows gone said free committed changes spare =
            let ended = moves_ended old session live locks rows gone free committed changes spare in
            record {
              plain = ap (λ (n : ModelNode). record n { waiting = waiting }) ended.plain
                  ∙ ap (λ w. record (end_live (plain_of old) session) { waiting = w }) said
                  ∙ ap (told (plain_of old) session) judged ∙ sym (by_status true sent);
              inbox = refl;
              ring = record { ring = refl; since = refl; id = refl };
              certification = refl;
              tables = λ order tables. let t = ended.tables order tables in
                  record { locks = t.locks; rows = t.rows; units = t.units; room = t.room };
            }
