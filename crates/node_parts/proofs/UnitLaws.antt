-- The table of units: its look-ups, and how many rows all units name after each edit.
use Rattle.std.proofs.Common.{◌≡◌, ℕ, ◌+◌, ◌-◌, ◌≤◌, Bool, true, false, cond, eqb, not, List, [], ◌∷◌, Option, Some, None, refl, sym, ap, subst, ◌∙◌, arith}
use Rattle.std.specs.Prelude.{T, ◌&&◌, is_some}
use Rattle.std.specs.Cmp.{nat_cmp_total, unsigned_ties}
use Rattle.std.specs.FinMap.{nat_cmp-IsAntisymmetric}
use Rattle.std.specs.FinMap.Entries.{find, put, where_key, is_sorted, below_all, by_order}
use Rattle.std.specs.Map.{lookup}
use Rattle.std.specs.Option.{option_map}
use Rattle.std.specs.Ordering.{nat_cmp, eq_by_cmp, is_lt, is_eq}
use Rattle.std.specs.declared.cmp.Ordering.{Ordering}
use Rattle.std.specs.declared.cmp.Ordering.TheVariants.{Less, Equal, Greater}
use Rattle.finite_map.proofs.Edits.{numbers, tied}
use Rattle.finite_map.specs.FiniteMap.{FiniteMap, empty, get, insert, remove, retain_keys, get-entries, entries-insert}
use Rattle.finite_map.specs.Hashed.{get-hashed, hashed-insert, hashed-remove}
use Rattle.apply_unit.specs.Task.{ModelTask}
use Rattle.key_sets.specs.Keys.{Keys}
use Rattle.node_meaning.specs.Steps.{is_finished_stage}
use Rattle.node_parts.specs.Units.{Work, UnitTable, added, finished, finished_unit, finished_work, without, rows_of, sum_rows, total_rows, is_started_stage}
use Rattle.node_parts.specs.UnitEntries.{stage_of, unit_of, work_of, units_in, work_in}
use Rattle.node_parts.specs.declared.units.UnitEntry.{UnitEntry}
use Rattle.node_parts.proofs.MapLaws.{same, get_inserted, get_removed, removed_here}

-- ---- look-ups
abbrev pub Entries : Type 0
Entries = List (ℕ × UnitEntry)

abbrev pub table : Entries → ℕ → UnitTable
table es room = record { units = units_in es; work = work_in es; room = room }

module _ (es : Entries) (room : ℕ) (t : UnitTable) (q : ℕ) (o : Option UnitEntry) where
  pub unit_at : table es room ≡ t → o ≡ lookup (eqb q) es → get t.units q ≡ option_map unit_of o
  unit_at is there =
      ap (λ (s : UnitTable). get s.units q) (sym is)
      ∙ get-hashed nat_cmp eqb unsigned_ties unit_of nat_cmp_total es q ∙ ap (option_map unit_of) (sym there)

  pub work_at : table es room ≡ t → o ≡ lookup (eqb q) es → get t.work q ≡ option_map work_of o
  work_at is there =
      ap (λ (s : UnitTable). get s.work q) (sym is)
      ∙ get-hashed nat_cmp eqb unsigned_ties work_of nat_cmp_total es q ∙ ap (option_map work_of) (sym there)

pub some_mapped : {X Y : Type 0} (f : X → Y) (o : Option X) → is_some (option_map f o) ≡ is_some o
some_mapped f None = refl
some_mapped f (Some x) = refl

pub finished_by : (o : Option ModelTask) → is_some o ≡ is_finished_stage (stage_of o)
finished_by None = refl
finished_by (Some task) = refl

pub started_by : (o : Option ModelTask) (b : Bool) → is_some o ≡ not b → b ≡ is_started_stage (stage_of o)
started_by None true e = refl
started_by None false e = cc
started_by (Some task) true e = cc
started_by (Some task) false e = refl

module _ (es fs : Entries) where
  pub units_put : (k : ℕ) (e : UnitEntry) → ((q : ℕ) → lookup (eqb q) fs ≡ cond (eqb k q) (Some e) (lookup (eqb q) es))
      → units_in fs ≡ insert (units_in es) k (unit_of e)
  units_put k e is = hashed-insert nat_cmp eqb unsigned_ties unit_of nat_cmp_total nat_cmp-IsAntisymmetric es fs k e is

  pub work_put : (k : ℕ) (e : UnitEntry) → ((q : ℕ) → lookup (eqb q) fs ≡ cond (eqb k q) (Some e) (lookup (eqb q) es))
      → work_in fs ≡ insert (work_in es) k (work_of e)
  work_put k e is = hashed-insert nat_cmp eqb unsigned_ties work_of nat_cmp_total nat_cmp-IsAntisymmetric es fs k e is

  pub units_taken : (k : ℕ) → ((q : ℕ) → lookup (eqb q) fs ≡ cond (eqb k q) None (lookup (eqb q) es))
      → units_in fs ≡ remove (units_in es) k
  units_taken k is = hashed-remove nat_cmp eqb unsigned_ties unit_of nat_cmp_total nat_cmp-IsAntisymmetric es fs k is

  pub work_taken : (k : ℕ) → ((q : ℕ) → lookup (eqb q) fs ≡ cond (eqb k q) None (lookup (eqb q) es))
      → work_in fs ≡ remove (work_in es) k
  work_taken k is = hashed-remove nat_cmp eqb unsigned_ties work_of nat_cmp_total nat_cmp-IsAntisymmetric es fs k is

-- ---- how many rows
put_by : (k : ℕ) (w : Work) (e : ℕ × Work) (es : List (ℕ × Work)) (r : Ordering)
    → cond (is_eq r) (Some e.1) (find nat_cmp k es) ≡ None
    → (find nat_cmp k es ≡ None → sum_rows (put nat_cmp k w es) ≡ w.rows + sum_rows es)
    → sum_rows (by_order r ((k, w) ∷ e ∷ es) ((e.0, w) ∷ es) (e ∷ put nat_cmp k w es)) ≡ w.rows + (e.1.rows + sum_rows es)
put_by k w e es Less none later = refl
put_by k w e es Equal none later = cc
put_by k w e es Greater none later = let h = later none in omega (arith, h)

sum_put : (k : ℕ) (w : Work) (es : List (ℕ × Work)) → find nat_cmp k es ≡ None
    → sum_rows (put nat_cmp k w es) ≡ w.rows + sum_rows es
sum_put k w [] none = refl
sum_put k w (e ∷ es) none = put_by k w e es (nat_cmp k e.0) none (sum_put k w es)

-- one more unit adds its rows
pub total_added : (m : FiniteMap nat_cmp Work) (k : ℕ) (w : Work) → get m k ≡ None → total_rows (insert m k w) ≡ w.rows + total_rows m
total_added m k w none =
    ap sum_rows (entries-insert nat_cmp_total m k w) ∙ sum_put k w m.entries (sym (get-entries m k) ∙ none)

both_true : (a b : Bool) → T (a && b) → T a × T b
both_true true b h = (tt, h)
both_true false b h = absurd h

lower_differs : (r : Ordering) → T (is_lt r) → is_eq r ≡ false
lower_differs Less h = refl
lower_differs Equal h = absurd h
lower_differs Greater h = absurd h

-- entries above a number all stay
none_taken : (k : ℕ) (es : List (ℕ × Work)) → T (below_all nat_cmp k es)
    → where_key nat_cmp (λ x. not (eq_by_cmp nat_cmp k x)) es ≡ es
none_taken k [] h = refl
none_taken k (e ∷ es) h =
    let parts = both_true _ _ h in
    ap (λ b. cond (not b) (e ∷ where_key nat_cmp (λ x. not (eq_by_cmp nat_cmp k x)) es) (where_key nat_cmp (λ x. not (eq_by_cmp nat_cmp k x)) es))
    (lower_differs (nat_cmp k e.0) parts.0)
    ∙ ap (λ l. e ∷ l) (none_taken k es parts.1)

taken_by : (b : Bool) (e : ℕ × Work) (o : Option Work) (es fs : List (ℕ × Work)) → (b ≡ true → fs ≡ es)
    → rows_of o + sum_rows fs ≡ sum_rows es
    → rows_of (cond b (Some e.1) o) + sum_rows (cond (not b) (e ∷ fs) fs) ≡ e.1.rows + sum_rows es
taken_by true e o es fs all later = ap (λ l. e.1.rows + sum_rows l) (all refl)
taken_by false e o es fs all later = omega (arith, later)

sum_taken : (k : ℕ) (es : List (ℕ × Work)) → T (is_sorted nat_cmp es)
    → rows_of (find nat_cmp k es) + sum_rows (where_key nat_cmp (λ x. not (eq_by_cmp nat_cmp k x)) es) ≡ sum_rows es
sum_taken k [] rising = refl
sum_taken k (e ∷ es) rising =
    let parts = both_true _ _ rising in
    taken_by (eq_by_cmp nat_cmp k e.0) e (find nat_cmp k es) es (where_key nat_cmp (λ x. not (eq_by_cmp nat_cmp k x)) es)
    (λ same_number. none_taken k es (subst (λ n. T (below_all nat_cmp n es)) (sym (tied numbers k e.0 same_number)) parts.0))
    (sum_taken k es parts.1)

-- a unit that is taken out takes its rows along
pub total_removed : (m : FiniteMap nat_cmp Work) (k : ℕ) → rows_of (get m k) + total_rows (remove m k) ≡ total_rows m
unfolding remove retain_keys
total_removed m k =
    ap (λ o. rows_of o + total_rows (remove m k)) (get-entries m k) ∙ sum_taken k m.entries m.sorted

-- a unit whose rows stay changes no total
pub total_replaced : (m : FiniteMap nat_cmp Work) (k : ℕ) (v w : Work) → get m k ≡ Some v → v.rows ≡ w.rows
    → total_rows (insert m k w) ≡ total_rows m
total_replaced m k v w there is =
    let again : insert m k w ≡ insert (remove m k) k w = same (insert m k w) (insert (remove m k) k w) (λ q.
    get_inserted m k w q ∙ shadow (eqb q k) q refl ∙ sym (get_inserted (remove m k) k w q)) in
    let one = total_added (remove m k) k w (removed_here m k) in
    let two = total_removed m k in
    let three : rows_of (get m k) ≡ v.rows = ap rows_of there in
    ap total_rows again ∙ omega (arith, one, two, three, is)
  where
    shadow : (b : Bool) (q : ℕ) → eqb q k ≡ b → cond b (Some w) (get m q) ≡ cond b (Some w) (get (remove m k) q)
    shadow true q e = refl
    shadow false q e = sym (get_removed m k q ∙ ap (λ b. cond b None (get m q)) e)

pub total_none : (es : Entries) → es ≡ [] → 0 ≡ total_rows (work_in es)
unfolding empty
total_none es e = ap (λ l. total_rows (work_in l)) (sym e)

-- ---- a unit starts
absent_too : (o : Option UnitEntry) → option_map unit_of o ≡ None → option_map work_of o ≡ None
absent_too None none = refl
absent_too (Some e) none = cc

abbrev pub Puts : Entries → Entries → ℕ → UnitEntry → Type 0
Puts es fs k e = (q : ℕ) → lookup (eqb q) fs ≡ cond (eqb k q) (Some e) (lookup (eqb q) es)

abbrev pub Takes : Entries → Entries → ℕ → Type 0
Takes es fs k = (q : ℕ) → lookup (eqb q) fs ≡ cond (eqb k q) None (lookup (eqb q) es)

abbrev started : Keys → ℕ → UnitEntry
started keys rows = record { keys = keys; rows = rows; done = None }

module _ (es fs : Entries) (room : ℕ) (t : UnitTable) (k : ℕ) (is : table es room ≡ t) where
  pub table_added : (keys : Keys) (rows : ℕ) → Puts es fs k (started keys rows) → table fs (room + rows) ≡ added t k keys rows
  table_added keys rows puts =
      (λ i. record { units = units_put es fs k (started keys rows) puts i; work = work_put es fs k (started keys rows) puts i; room = room + rows })
      ∙ ap (λ (s : UnitTable). added s k keys rows) is

  pub room_added : (keys : Keys) (rows : ℕ) → Puts es fs k (started keys rows) → room ≡ total_rows (work_in es)
      → get t.units k ≡ None → room + rows ≡ total_rows (work_in fs)
  room_added keys rows puts total absent =
      let none : get (work_in es) k ≡ None =
      work_at es room (table es room) k (lookup (eqb k) es) refl refl
      ∙ absent_too (lookup (eqb k) es) (sym (unit_at es room t k (lookup (eqb k) es) is refl) ∙ absent) in
      let more = total_added (work_in es) k (work_of (started keys rows)) none in
      omega (arith, total, more) ∙ sym (ap total_rows (work_put es fs k (started keys rows) puts))

  -- ---- a unit is taken out
  pub table_without : (o : Option UnitEntry) → o ≡ lookup (eqb k) es → Takes es fs k
      → table fs (room - rows_of (option_map work_of o)) ≡ without t k
  table_without o there takes =
      (λ i. record {
        units = units_taken es fs k takes i;
        work = work_taken es fs k takes i;
        room = room - rows_of (sym (work_at es room (table es room) k o refl there) i);
      })
      ∙ ap (λ (s : UnitTable). without s k) is

  pub rows_within : room ≡ total_rows (work_in es) → rows_of (get t.work k) ≤ t.room
  rows_within total =
      subst (λ (s : UnitTable). rows_of (get s.work k) ≤ s.room) is (let all = total_removed (work_in es) k in omega (arith, total, all))

  pub room_without : (o : Option UnitEntry) → o ≡ lookup (eqb k) es → Takes es fs k → room ≡ total_rows (work_in es)
      → room - rows_of (option_map work_of o) ≡ total_rows (work_in fs)
  room_without o there takes total =
      let all = total_removed (work_in es) k in
      let own : rows_of (get (work_in es) k) ≡ rows_of (option_map work_of o) = ap rows_of (work_at es room (table es room) k o refl there) in
      omega (arith, total, all, own) ∙ sym (ap total_rows (work_taken es fs k takes))

  pub entry_within : (o : Option UnitEntry) → o ≡ lookup (eqb k) es → room ≡ total_rows (work_in es) → rows_of (option_map work_of o) ≤ room
  entry_within o there total =
      let all = total_removed (work_in es) k in
      let own : rows_of (get (work_in es) k) ≡ rows_of (option_map work_of o) = ap rows_of (work_at es room (table es room) k o refl there) in
      omega (arith, total, all, own)

-- ---- a unit has finished
abbrev done_entry : UnitEntry → ModelTask → UnitEntry
done_entry old task = record { keys = old.keys; rows = old.rows; done = Some task }

pub table_finished : (es fs : Entries) (room : ℕ) (t : UnitTable) (task : ModelTask) (k : ℕ) (old : UnitEntry) → table es room ≡ t
    → k ≡ task.number → Some old ≡ lookup (eqb k) es → Puts es fs k (done_entry old task) → table fs room ≡ finished t task
table_finished es fs room t task k old is same_number there puts =
    let units : units_in fs ≡ finished_unit (units_in es) k (get (units_in es) k) =
    units_put es fs k (done_entry old task) puts
    ∙ ap (finished_unit (units_in es) k) (sym (unit_at es room (table es room) k (Some old) refl there)) in
    let work : work_in fs ≡ insert (work_in es) k (record { rows = old.rows; done = Some task }) =
    work_put es fs k (done_entry old task) puts in
    let own : get (work_in es) k ≡ Some (work_of old) = work_at es room (table es room) k (Some old) refl there in
    (λ i. record {
      units = (units ∙ ap (λ n. finished_unit (units_in es) n (get (units_in es) n)) same_number) i;
      work = (work ∙ ap (λ n. insert (work_in es) n (record { rows = old.rows; done = Some task })) same_number
          ∙ ap (finished_work (work_in es) task) (sym (ap (get (work_in es)) (sym same_number) ∙ own))) i;
      room = room;
    })
    ∙ ap (λ (s : UnitTable). finished s task) is

pub room_finished : (es fs : Entries) (room k : ℕ) (task : ModelTask) (old : UnitEntry) → room ≡ total_rows (work_in es)
    → Some old ≡ lookup (eqb k) es → Puts es fs k (done_entry old task) → room ≡ total_rows (work_in fs)
room_finished es fs room k task old total there puts =
    total
    ∙ sym (ap total_rows (work_put es fs k (done_entry old task) puts)
    ∙ total_replaced (work_in es) k (work_of old) (work_of (done_entry old task))
    (work_at es room (table es room) k (Some old) refl there) refl)

pub nothing_finished : (es : Entries) (room : ℕ) (t : UnitTable) (task : ModelTask) (k : ℕ) → table es room ≡ t
    → k ≡ task.number → None ≡ lookup (eqb k) es → table es room ≡ finished t task
nothing_finished es room t task k is same_number there =
    let unit : get (units_in es) task.number ≡ None =
    ap (get (units_in es)) (sym same_number) ∙ unit_at es room (table es room) k None refl there in
    let work : get (work_in es) task.number ≡ None =
    ap (get (work_in es)) (sym same_number) ∙ work_at es room (table es room) k None refl there in
    (λ i. record {
      units = finished_unit (units_in es) task.number (sym unit i);
      work = finished_work (work_in es) task (sym work i);
      room = room;
    })
    ∙ ap (λ (s : UnitTable). finished s task) is
