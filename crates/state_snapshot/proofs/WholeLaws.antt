-- Whole snapshots: what is read is spelled so, and what is spelled is read again.
use Rattle.std.proofs.Common.{◌≡◌, ℕ, ◌+◌, ◌^◌, ◌<◌, ◌≤◌, false, List, [], ◌∷◌, ◌++◌, length, None, Ok, refl, sym, ap, subst, ◌∙◌, append_assoc, arith}
use Rattle.std.specs.Prelude.{◌==◌, not, nat_lt}
use Rattle.std.specs.Int.{w8, w32, w64, to_be_bytes}
use Rattle.std.specs.List.{flat_map}
use Rattle.std.specs.Str.{bytes_eq}
use Rattle.std.proofs.lemmas.Bool.{ltb-false, le-ltb, eqb-true}
use Rattle.std.proofs.lemmas.List.{append-nil, nil_from_length}
use Rattle.wsrep_base.specs.StateId.{nil_id}
use Rattle.wsrep_base.specs.declared.limits.TheConstants.{MOST_EVENTS}
use Rattle.write_set.specs.declared.fault.WsFault.TheVariants.{Short}
use Rattle.write_set.specs.Place.{Place, place_in}
use Rattle.write_set.specs.declared.fault.WsFault.TheVariants as part
use Rattle.write_set.specs.Reading.{◌>>=◌, refuse, Read, bytes_at, number_at}
use Rattle.write_set.proofs.Bounds.{is_not, is_no}
use Rattle.wsrep_base.proofs.Fields.{IsBytes, read_ok, passed, ok_is, place, Took, took_then, bytes_take, bytes_again, number_takes, number_again, wide32, wide64, byte_takes, byte_again}
use Rattle.row_model.specs.declared.row.RowItem.{RowItem}
use Rattle.cert_meaning.specs.declared.items.CommitItem.{CommitItem}
use Rattle.cert_meaning.specs.declared.parts.MemberItem.{MemberItem}
use Rattle.cert_meaning.specs.declared.parts.OpenItem.{OpenItem}
use Rattle.cert_meaning.specs.declared.parts.StateParts.{StateParts}
use Rattle.state_snapshot.specs.declared.head.Head.{Head}
use Rattle.state_snapshot.specs.Reading.{each_at, no_members, with_member, member_at, members_at, row_at, rows_at, commit_at, commits_at, open_at, open_trx_at, head_at, state_parts, read}
use Rattle.state_snapshot.specs.Spelling.{counted_text, member_text, row_item_text, commit_text, open_text, head_text, spelling}
use Rattle.state_snapshot.specs.Rules.{AreCounted, MembersObey, RowsObey, CommitsObey, Obeys, IsGiven}
use Rattle.state_snapshot.specs.Laws.{PartsInRange}
use Rattle.state_snapshot.proofs.Each.{Step, Always, AllFit, each_take, each_again}
use Rattle.state_snapshot.proofs.MemberLaws.{MemberFits, member_step, members_say, members_fit, least_is, members_meet}
use Rattle.state_snapshot.proofs.RowLaws.{RowFits, RowsSay, next_row, row_step, rows_say, rows_fit}
use Rattle.state_snapshot.proofs.CommitLaws.{CommitFits, CommitsSay, next_commit, commit_step, commits_say, commits_fit}
use Rattle.state_snapshot.proofs.OpenLaws.{OpenFits, OpenSay, next_open, open_step, open_say, open_fit}

-- ---- items behind their count

-- the items that are read behind a count, which begin with what is known at that count
abbrev counted_at : {A S : Type 0} → (S → Place → Read (A × S)) → (ℕ → S) → Place → Read (List A)
counted_at one_at start p = do
  count ← number_at w32 p
  each_at one_at count.0 (start count.0) count.1

module _ {A S : Type 0} (text : A → List ℕ) (next : S → A → S) (Fits : S → A → Type 0) (one_at : S → Place → Read (A × S))
    (step : Step text next Always Fits one_at) (start : ℕ → S) where
  abbrev TakesCounted : Place → List A × Place → Type 0
  TakesCounted p x = Took p (counted_text text x.0) x.1 × AreCounted x.0 × AllFit next Fits (start (length x.0)) x.0

  counted_take : (p : Place) (x : List A × Place) → IsBytes p.left → counted_at one_at start p ≡ Ok x → TakesCounted p x
  counted_take p x fits e =
      let a = read_ok ℕ (number_at w32 p) (λ count. each_at one_at count.0 (start count.0) count.1) x e in
      let t = number_takes Short w32 (2 ^ 32) wide32 p a.0 fits a.1 in
      let k = each_take text next Always Fits one_at step a.0.0 (start a.0.0) a.0.1 x t.0.fits tt a.2 in
      let taken : Took p (to_be_bytes w32 a.0.0 ++ flat_map text x.0) x.1 =
      took_then p (to_be_bytes w32 a.0.0) a.0.1 (flat_map text x.0) x.1 t.0 k.0 in
      let count : a.0.0 ≡ length x.0 = sym k.1 in (
        subst (λ n. Took p (to_be_bytes w32 n ++ flat_map text x.0) x.1) count taken,
        subst (λ n. n < 2 ^ 32) count t.1,
        subst (λ n. AllFit next Fits (start n) x.0) count k.2,
      )

  counted_again : (xs : List A) (rest : List ℕ) (at : ℕ) → AreCounted xs → AllFit next Fits (start (length xs)) xs
      → (q : ℕ) × (counted_at one_at start (place (counted_text text xs ++ rest) at) ≡ Ok (xs, place rest q))
  counted_again xs rest at counted fit =
      let n = length xs in
      let others = flat_map text xs in
      let k = each_again text next Always Fits one_at step xs (start n) rest (at + 4) fit in
      let is : counted_at one_at start (place (to_be_bytes w32 n ++ (others ++ rest)) at) ≡ Ok (xs, place rest k.0) =
      rw (number_again Short w32 (2 ^ 32) wide32 n (others ++ rest) at counted, k.1) refl in
      (k.0, ap (λ left. counted_at one_at start (place left at)) (append_assoc (to_be_bytes w32 n) others rest) ∙ is)

-- ---- the head

abbrev numbers_of : Head → List ℕ
numbers_of h = to_be_bytes w64 h.number ++ (to_be_bytes w64 h.floor ++ to_be_bytes w32 h.version)

-- what a head says
pub record HeadSays (h : Head) : Type 0 where
  pub given : bytes_eq h.id nil_id ≡ false
  pub long : length h.id ≡ 16
  pub number : h.number ≤ MOST_EVENTS
  pub floor : h.floor ≤ h.number
  pub version : h.version < 2 ^ 32

-- what stands behind the id
abbrev numbers_from : List ℕ → Place → Read Head
numbers_from id p = do
  number ← number_at w64 p
  few ← refuse (nat_lt MOST_EVENTS number.0) (part.NotCanonical p.at)
  floor ← number_at w64 number.1
  within ← refuse (nat_lt number.0 floor.0) (part.NotCanonical number.1.at)
  version ← number_at w32 floor.1
  Ok (record { id = id; number = number.0; floor = floor.0; version = version.0 }, version.1)

-- what stands behind the version of the format
abbrev id_from : Place → Read Head
id_from p = do
  id ← bytes_at 16 p
  given ← refuse (bytes_eq id.0 nil_id) (part.NotCanonical p.at)
  numbers_from id.0 id.1

-- what the numbers say
pub record NumbersSay (id : List ℕ) (h : Head) : Type 0 where
  pub same : id ≡ h.id
  pub number : h.number ≤ MOST_EVENTS
  pub floor : h.floor ≤ h.number
  pub version : h.version < 2 ^ 32

abbrev TakesNumbers : List ℕ → Place → Head × Place → Type 0
TakesNumbers id p x = Took p (numbers_of x.0) x.1 × NumbersSay id x.0

numbers_take : (id : List ℕ) (p : Place) (x : Head × Place) → IsBytes p.left → numbers_from id p ≡ Ok x → TakesNumbers id p x
numbers_take id p x fits e =
    let n = read_ok ℕ (number_at w64 p) _ x e in
    let few = passed (nat_lt MOST_EVENTS n.0.0) _ _ x n.2 in
    let f = read_ok ℕ (number_at w64 n.0.1) _ x few.1 in
    let within = passed (nat_lt n.0.0 f.0.0) _ _ x f.2 in
    let v = read_ok ℕ (number_at w32 f.0.1) _ x within.1 in
    let tn = number_takes Short w64 (2 ^ 64) wide64 p n.0 fits n.1 in
    let tf = number_takes Short w64 (2 ^ 64) wide64 n.0.1 f.0 tn.0.fits f.1 in
    let tv = number_takes Short w32 (2 ^ 32) wide32 f.0.1 v.0 tf.0.fits v.1 in
    let h : Head = record { id = id; number = n.0.0; floor = f.0.0; version = v.0.0 } in
    let end = v.0.1 in
    let text = to_be_bytes w64 f.0.0 ++ to_be_bytes w32 v.0.0 in
    let later : Took n.0.1 text end = took_then n.0.1 (to_be_bytes w64 f.0.0) f.0.1 (to_be_bytes w32 v.0.0) end tf.0 tv.0 in
    let taken : Took p (numbers_of h) end = took_then p (to_be_bytes w64 n.0.0) n.0.1 text end tn.0 later in
    let says : NumbersSay id h = record {
      same = refl;
      number = ltb-false MOST_EVENTS n.0.0 few.0;
      floor = ltb-false n.0.0 f.0.0 within.0;
      version = tv.1;
    } in
    subst (TakesNumbers id p) (ok_is (h, end) x v.2) (taken, says)

abbrev TakesId : Place → Head × Place → Type 0
TakesId p x = Took p (x.0.id ++ numbers_of x.0) x.1 × HeadSays x.0

id_takes : (p : Place) (x : Head × Place) → IsBytes p.left → id_from p ≡ Ok x → TakesId p x
id_takes p x fits e =
    let c = read_ok (List ℕ) (bytes_at 16 p) _ x e in
    let given = passed (bytes_eq c.0.0 nil_id) _ _ x c.2 in
    let tc = bytes_take Short 16 p c.0 fits c.1 in
    let tn = numbers_take c.0.0 c.0.1 x tc.0.fits given.1 in
    let says = tn.1 in
    let taken : Took p (c.0.0 ++ numbers_of x.0) x.1 = took_then p c.0.0 c.0.1 (numbers_of x.0) x.1 tc.0 tn.0 in (
      subst (λ id. Took p (id ++ numbers_of x.0) x.1) says.same taken,
      record {
        given = subst (λ id. bytes_eq id nil_id ≡ false) says.same given.0;
        long = subst (λ (id : List ℕ). length id ≡ 16) says.same tc.1;
        number = says.number;
        floor = says.floor;
        version = says.version;
      },
    )

abbrev TakesHead : Place → Head × Place → Type 0
TakesHead p x = Took p (83 ∷ 1 ∷ (x.0.id ++ numbers_of x.0)) x.1 × HeadSays x.0

head_takes : (p : Place) (x : Head × Place) → IsBytes p.left → head_at p ≡ Ok x → TakesHead p x
unfolding head_at
head_takes p x fits e =
    let a = read_ok ℕ (number_at w8 p) _ x e in
    let mark = passed (not (a.0.0 == 83)) _ _ x a.2 in
    let b = read_ok ℕ (number_at w8 a.0.1) _ x mark.1 in
    let form = passed (not (b.0.0 == 1)) (part.NotCanonical a.0.1.at) (λ known. id_from b.0.1) x b.2 in
    let ta = byte_takes Short p a.0 fits a.1 in
    let tb = byte_takes Short a.0.1 b.0 ta.fits b.1 in
    let tc = id_takes b.0.1 x tb.fits form.1 in
    let text = x.0.id ++ numbers_of x.0 in
    let first : a.0.0 ≡ 83 = eqb-true a.0.0 83 (is_not (a.0.0 == 83) mark.0) in
    let second : b.0.0 ≡ 1 = eqb-true b.0.0 1 (is_not (b.0.0 == 1) form.0) in
    let taken : Took p (a.0.0 ∷ b.0.0 ∷ text) x.1 =
    took_then p (a.0.0 ∷ []) a.0.1 (b.0.0 ∷ text) x.1 ta (took_then a.0.1 (b.0.0 ∷ []) b.0.1 text x.1 tb tc.0) in
    let is : a.0.0 ∷ b.0.0 ∷ text ≡ 83 ∷ 1 ∷ text = λ i. first i ∷ second i ∷ text in
    (subst (λ text. Took p text x.1) is taken, tc.1)

module _ (h : Head) (rest : List ℕ) (says : HeadSays h) where
  abbrev rest3 : List ℕ
  rest3 = to_be_bytes w32 h.version ++ rest

  abbrev rest2 : List ℕ
  rest2 = to_be_bytes w64 h.floor ++ rest3

  abbrev rest1 : List ℕ
  rest1 = to_be_bytes w64 h.number ++ rest2

  head_again : (at : ℕ) → (q : ℕ) × (head_at (place (83 ∷ 1 ∷ (h.id ++ rest1)) at) ≡ Ok (h, place rest q))
  unfolding head_at
  head_again at = (
    at + 1 + 1 + 16 + 8 + 8 + 4,
    rw (
      byte_again Short 83 (1 ∷ (h.id ++ rest1)) at,
      byte_again Short 1 (h.id ++ rest1) (at + 1),
      bytes_again Short 16 h.id rest1 (at + 1 + 1) says.long,
      says.given,
      number_again Short w64 (2 ^ 64) wide64 h.number rest2 (at + 1 + 1 + 16) (omega (arith, says.number)),
      le-ltb MOST_EVENTS h.number says.number,
      number_again Short w64 (2 ^ 64) wide64 h.floor rest3 (at + 1 + 1 + 16 + 8) (omega (arith, says.number, says.floor)),
      le-ltb h.number h.floor says.floor,
      number_again Short w32 (2 ^ 32) wide32 h.version rest (at + 1 + 1 + 16 + 8 + 8) says.version,
    ) refl,
  )

-- ---- the whole

abbrev head_of : StateParts → List ℕ → Head
head_of parts id = record { id = id; number = parts.number; floor = parts.floor; version = parts.version }

-- the parts meet the rules, and are spelled so
pub record IsSpelled (bytes : List ℕ) (parts : StateParts) (id : List ℕ) : Type 0 where
  pub rules : Obeys parts
  pub range : PartsInRange parts
  pub given : IsGiven id
  pub long : length id ≡ 16
  pub spelled : bytes ≡ spelling parts id

abbrev tail_of : StateParts → List ℕ
tail_of parts =
    counted_text member_text parts.members
    ++ (counted_text row_item_text parts.rows
    ++ (counted_text commit_text parts.commits ++ counted_text open_text parts.open_trx))

spelled_so : (parts : StateParts) (id : List ℕ) → head_text parts id ++ tail_of parts ≡ spelling parts id
unfolding spelling
spelled_so parts id = refl

pub read_takes : (bytes : List ℕ) (x : StateParts × List ℕ) → IsBytes bytes → read bytes ≡ Ok x → IsSpelled bytes x.0 x.1
unfolding read members_at rows_at commits_at open_trx_at
read_takes bytes x fits e =
    let start = place_in bytes 0 in
    let a = read_ok Head (head_at start) _ x e in
    let h = a.0.0 in
    let m = read_ok (List MemberItem) (members_at h a.0.1) _ x a.2 in
    let r = read_ok (List RowItem) (rows_at m.0.1) _ x m.2 in
    let c = read_ok (List CommitItem) (commits_at h r.0.1) _ x r.2 in
    let o = read_ok (List OpenItem) (open_trx_at h.number m.0.0 c.0.1) _ x c.2 in
    let end = passed (not (length o.0.1.left == 0)) _ _ x o.2 in
    let ta = head_takes start a.0 fits a.1 in
    let tm = counted_take member_text (with_member h) (MemberFits h) (member_at h) (member_step h) no_members a.0.1 m.0 ta.0.fits m.1 in
    let tr = counted_take row_item_text next_row RowFits row_at row_step (λ n. None) m.0.1 r.0 tm.0.fits r.1 in
    let tc = counted_take commit_text next_commit (CommitFits h.number) (commit_at h.number) (commit_step h.number) (λ n. h.floor)
    r.0.1 c.0 tr.0.fits c.1 in
    let to = counted_take open_text next_open (OpenFits h.number m.0.0) (open_at h.number m.0.0) (open_step h.number m.0.0) (λ n. None)
    c.0.1 o.0 tc.0.fits o.1 in
    let made = state_parts h m.0.0 r.0.0 c.0.0 o.0.0 in
    let text3 = counted_text commit_text c.0.0 ++ counted_text open_text o.0.0 in
    let text2 = counted_text row_item_text r.0.0 ++ text3 in
    let text1 = counted_text member_text m.0.0 ++ text2 in
    let last = o.0.1 in
    let t3 : Took r.0.1 text3 last =
    took_then r.0.1 (counted_text commit_text c.0.0) c.0.1 (counted_text open_text o.0.0) last tc.0 to.0 in
    let t2 : Took m.0.1 text2 last = took_then m.0.1 (counted_text row_item_text r.0.0) r.0.1 text3 last tr.0 t3 in
    let t1 : Took a.0.1 text1 last = took_then a.0.1 (counted_text member_text m.0.0) m.0.1 text2 last tm.0 t2 in
    let text = head_text made h.id ++ text1 in
    let taken : Took start text last = took_then start (head_text made h.id) a.0.1 text1 last ta.0 t1 in
    let none : last.left ≡ [] = nil_from_length last.left (eqb-true (length last.left) 0 (is_not (length last.left == 0) end.0)) in
    let bytes_are : bytes ≡ spelling made h.id =
    taken.parts ∙ ap (λ rest. text ++ rest) none ∙ append-nil text ∙ spelled_so made h.id in
    let says = ta.1 in
    let members = members_say h (no_members (length m.0.0)) m.0.0 refl tm.2 in
    let rows = rows_say None r.0.0 tr.2 in
    let commits = commits_say h.number h.floor c.0.0 tc.2 in
    let opened = open_say h.number m.0.0 None o.0.0 to.2 in
    let members_obey : MembersObey h.number h.floor m.0.0 = record {
      counted = tm.1;
      rise = members.rise;
      reported = members.high;
      least = least_is h (no_members (length m.0.0)) m.0.0 refl members;
    } in
    let rows_obey : RowsObey r.0.0 = record { counted = tr.1; rise = rows.rise; named = rows.named } in
    let commits_obey : CommitsObey h.number h.floor c.0.0 = record { counted = tc.1; rise = commits.rise; keyed = commits.keyed } in
    let rules : Obeys made = record {
      number = says.number;
      floor = says.floor;
      members = members_obey;
      rows = rows_obey;
      commits = commits_obey;
      open_counted = to.1;
      open_rise = opened.rise;
      open_trx = opened.each;
    } in
    let range : PartsInRange made = record {
      version = says.version;
      members = members.range;
      rows = rows.range;
      commits = commits.range;
      open_trx = opened.range;
    } in
    let is : IsSpelled bytes made h.id = record {
      rules = rules;
      range = range;
      given = ap not says.given;
      long = says.long;
      spelled = bytes_are;
    } in
    subst (λ (y : StateParts × List ℕ). IsSpelled bytes y.0 y.1) (ok_is (made, h.id) x end.1) is

texts : (parts : StateParts) (id : List ℕ) → head_text parts id ++ tail_of parts
    ≡ 83 ∷ 1 ∷ (id ++ (to_be_bytes w64 parts.number ++ (to_be_bytes w64 parts.floor ++ (to_be_bytes w32 parts.version
    ++ (counted_text member_text parts.members ++ (counted_text row_item_text parts.rows
    ++ (counted_text commit_text parts.commits ++ (counted_text open_text parts.open_trx ++ []))))))))
texts parts id =
    let number = to_be_bytes w64 parts.number in
    let floor = to_be_bytes w64 parts.floor in
    let version = to_be_bytes w32 parts.version in
    let tail = tail_of parts in
    let members = counted_text member_text parts.members in
    let rows = counted_text row_item_text parts.rows in
    let commits = counted_text commit_text parts.commits in
    let opened = counted_text open_text parts.open_trx in
    ap (λ left. 83 ∷ 1 ∷ left) (append_assoc id (number ++ (floor ++ version)) tail
    ∙ ap (λ left. id ++ left) (append_assoc number (floor ++ version) tail
    ∙ ap (λ left. number ++ left) (append_assoc floor version tail
    ∙ ap (λ left. floor ++ (version ++ (members ++ (rows ++ (commits ++ left))))) (sym (append-nil opened)))))

pub read_again : (parts : StateParts) (id : List ℕ) → PartsInRange parts → Obeys parts → length id ≡ 16 → IsGiven id
    → read (spelling parts id) ≡ Ok (parts, id)
unfolding read members_at rows_at commits_at open_trx_at
read_again parts id range rules long given =
    let h = head_of parts id in
    let says : HeadSays h = record {
      given = is_no (bytes_eq id nil_id) given;
      long = long;
      number = rules.number;
      floor = rules.floor;
      version = range.version;
    } in
    let members = parts.members in
    let rows = parts.rows in
    let commits = parts.commits in
    let opened = parts.open_trx in
    let members_obey = rules.members in
    let rows_obey = rules.rows in
    let commits_obey = rules.commits in
    let members_fit' = members_fit h (no_members (length members)) members refl
    (members_meet h members members_obey.rise members_obey.reported members_obey.least range.members) in
    let rows_say' : RowsSay None rows = record { rise = rows_obey.rise; named = rows_obey.named; range = range.rows } in
    let commits_say' : CommitsSay h.number h.floor commits =
    record { rise = commits_obey.rise; keyed = commits_obey.keyed; range = range.commits } in
    let open_say' : OpenSay h.number members None opened = record { rise = rules.open_rise; each = rules.open_trx; range = range.open_trx } in
    let last = counted_text open_text opened ++ [] in
    let rest3 = counted_text commit_text commits ++ last in
    let rest2 = counted_text row_item_text rows ++ rest3 in
    let rest1 = counted_text member_text members ++ rest2 in
    let a = head_again h rest1 says 0 in
    let m = counted_again member_text (with_member h) (MemberFits h) (member_at h) (member_step h) no_members members rest2 a.0
    members_obey.counted members_fit' in
    let r = counted_again row_item_text next_row RowFits row_at row_step (λ n. None) rows rest3 m.0 rows_obey.counted (rows_fit None rows rows_say') in
    let c = counted_again commit_text next_commit (CommitFits h.number) (commit_at h.number) (commit_step h.number) (λ n. h.floor)
    commits last r.0 commits_obey.counted (commits_fit h.number h.floor commits commits_say') in
    let o = counted_again open_text next_open (OpenFits h.number members) (open_at h.number members) (open_step h.number members) (λ n. None)
    opened [] c.0 rules.open_counted (open_fit h.number members None opened open_say') in
    let front = 83 ∷ 1 ∷ (id ++ (to_be_bytes w64 h.number ++ (to_be_bytes w64 h.floor ++ (to_be_bytes w32 h.version ++ rest1)))) in
    let is : read front ≡ Ok (parts, id) = rw (a.1, m.1, r.1, c.1, o.1) refl in
    let text : spelling parts id ≡ front = sym (spelled_so parts id) ∙ texts parts id in
    ap read text ∙ is
