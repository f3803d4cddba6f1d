-- Commits: what is read are commits in order, and commits in order are read again.
use Rattle.std.proofs.Common.{◌≡◌, ℕ, ◌+◌, ◌^◌, ◌<◌, ◌≤◌, false, List, [], ◌∷◌, ◌++◌, Ok, refl, ap, subst, ◌∙◌, append_assoc}
use Rattle.std.specs.Prelude.{◌||◌, nat_le, nat_lt}
use Rattle.std.specs.Int.{w32, w64, to_be_bytes}
use Rattle.std.specs.List.{AllByRecursion}
use Rattle.std.proofs.lemmas.Bool.{leb-false, ltb-false, lt-leb, le-ltb}
use Rattle.wsrep_base.specs.declared.ids.TrxId.{TrxId}
use Rattle.key_sets.specs.Keys.{Keys}
use Rattle.write_set.specs.declared.fault.WsFault.TheVariants.{Short}
use Rattle.write_set.specs.Laws.{AreKeys}
use Rattle.write_set.specs.Place.{Place}
use Rattle.write_set.specs.Reading.{keys_at}
use Rattle.write_set.specs.Spelling.{keys_text}
use Rattle.write_set.proofs.Bounds.{neither}
use Rattle.write_set.proofs.SetLaws.{keys_take, keys_again}
use Rattle.wsrep_base.proofs.Fields.{IsBytes, read_ok, passed, ok_is, place, Took, took_then, number_takes, number_again, wide32, wide64}
use Rattle.cert_meaning.specs.declared.items.CommitItem.{CommitItem}
use Rattle.cert_meaning.specs.State.{RiseWithin}
use Rattle.state_snapshot.specs.Reading.{commit_at}
use Rattle.state_snapshot.specs.Spelling.{trx_text, commit_text}
use Rattle.state_snapshot.specs.Laws.{CommitInRange}
use Rattle.state_snapshot.proofs.Each.{Step, Always, AllFit}

abbrev pub CommitFits : ℕ → ℕ → CommitItem → Type 0
CommitFits most last commit =
    (last < commit.number) × (commit.number ≤ most) × AreKeys commit.keys × CommitInRange commit

abbrev pub next_commit : ℕ → CommitItem → ℕ
next_commit last commit = commit.number

abbrev TakesCommit : ℕ → ℕ → Place → (CommitItem × ℕ) × Place → Type 0
TakesCommit most last p x =
    Took p (commit_text x.0.0) x.1 × CommitFits most last x.0.0 × (x.0.1 ≡ next_commit last x.0.0) × Always (next_commit last x.0.0)

commit_takes : (most last : ℕ) (p : Place) (x : (CommitItem × ℕ) × Place) → IsBytes p.left → Always last → commit_at most last p ≡ Ok x
    → TakesCommit most last p x
unfolding commit_at
commit_takes most last p x fits holds e =
    let n = read_ok ℕ _ _ x e in
    let rising = passed (nat_le n.0.0 last || nat_lt most n.0.0) _ _ x n.2 in
    let each = neither (nat_le n.0.0 last) (nat_lt most n.0.0) rising.0 in
    let m = read_ok ℕ _ _ x rising.1 in
    let b = read_ok ℕ _ _ x m.2 in
    let k = read_ok Keys (keys_at b.0.1) _ x b.2 in
    let tn = number_takes Short w64 (2 ^ 64) wide64 p n.0 fits n.1 in
    let tm = number_takes Short w32 (2 ^ 32) wide32 n.0.1 m.0 tn.0.fits m.1 in
    let tb = number_takes Short w64 (2 ^ 64) wide64 m.0.1 b.0 tm.0.fits b.1 in
    let tk = keys_take b.0.1 k.0 tb.0.fits k.1 in
    let trx : TrxId = record { member = m.0.0; begin = b.0.0 } in
    let commit : CommitItem = record { number = n.0.0; trx = trx; keys = k.0.0 } in
    let id : Took n.0.1 (trx_text trx) b.0.1 = took_then n.0.1 (to_be_bytes w32 m.0.0) m.0.1 (to_be_bytes w64 b.0.0) b.0.1 tm.0 tb.0 in
    let later : Took n.0.1 (trx_text trx ++ keys_text k.0.0) k.0.1 = took_then n.0.1 (trx_text trx) b.0.1 (keys_text k.0.0) k.0.1 id tk.0 in
    let taken : Took p (commit_text commit) k.0.1 =
    took_then p (to_be_bytes w64 n.0.0) n.0.1 (trx_text trx ++ keys_text k.0.0) k.0.1 tn.0 later in
    subst (TakesCommit most last p) (ok_is ((commit, n.0.0), k.0.1) x k.2) (
      taken,
      (leb-false n.0.0 last each.0, ltb-false most n.0.0 each.1, (tk.1, tk.2), (tn.1, (tm.1, tb.1), tk.3)),
      refl,
      tt,
    )

is_between : (most last n : ℕ) → last < n → n ≤ most → nat_le n last || nat_lt most n ≡ false
is_between most last n above within = λ i. (lt-leb n last above) i || (le-ltb most n within) i

commit_again : (most last : ℕ) (commit : CommitItem) (rest : List ℕ) (at : ℕ) → CommitFits most last commit
    → (q : ℕ) × (commit_at most last (place (commit_text commit ++ rest) at) ≡ Ok ((commit, commit.number), place rest q))
unfolding commit_at
commit_again most last commit rest at fits =
    let trx = commit.trx in
    let number = to_be_bytes w64 commit.number in
    let member = to_be_bytes w32 trx.member in
    let begin = to_be_bytes w64 trx.begin in
    let keys = keys_text commit.keys in
    let range = fits.3 in
    let k = keys_again commit.keys rest (at + 8 + 4 + 8) fits.2.0 fits.2.1 range.2 in
    let is : commit_at most last (place (number ++ (member ++ (begin ++ (keys ++ rest)))) at) ≡ Ok ((commit, commit.number), place rest k.0) =
    rw (
      number_again Short w64 (2 ^ 64) wide64 commit.number (member ++ (begin ++ (keys ++ rest))) at range.0,
      is_between most last commit.number fits.0 fits.1,
      number_again Short w32 (2 ^ 32) wide32 trx.member (begin ++ (keys ++ rest)) (at + 8) range.1.0,
      number_again Short w64 (2 ^ 64) wide64 trx.begin (keys ++ rest) (at + 8 + 4) range.1.1,
      k.1,
    ) refl in (
      k.0,
      ap (λ left. commit_at most last (place left at))
          (append_assoc number (trx_text trx ++ keys) rest
          ∙ ap (λ left. number ++ left) (append_assoc (trx_text trx) keys rest ∙ append_assoc member begin (keys ++ rest))) ∙ is,
    )

pub commit_step : (most : ℕ) → Step commit_text next_commit Always (CommitFits most) (commit_at most)
commit_step most = record { takes = commit_takes most; again = commit_again most }

abbrev CommitsFit : ℕ → ℕ → List CommitItem → Type 0
CommitsFit most last commits = AllFit next_commit (CommitFits most) last commits

-- what commits that fit say
pub record CommitsSay (most last : ℕ) (commits : List CommitItem) : Type 0 where
  pub rise : RiseWithin last most commits
  pub keyed : AllByRecursion (λ (commit : CommitItem). AreKeys commit.keys) commits
  pub range : AllByRecursion CommitInRange commits

pub commits_say : (most last : ℕ) (commits : List CommitItem) → CommitsFit most last commits → CommitsSay most last commits
commits_say most last [] fit = record { rise = tt; keyed = tt; range = tt }
commits_say most last (commit ∷ commits) fit =
    let rest = commits_say most commit.number commits fit.1 in
    record { rise = (fit.0.0, fit.0.1, rest.rise); keyed = (fit.0.2, rest.keyed); range = (fit.0.3, rest.range) }

pub commits_fit : (most last : ℕ) (commits : List CommitItem) → CommitsSay most last commits → CommitsFit most last commits
commits_fit most last [] say = tt
commits_fit most last (commit ∷ commits) say =
    let rest : CommitsSay most commit.number commits = record { rise = say.rise.2; keyed = say.keyed.1; range = say.range.1 } in
    ((say.rise.0, say.rise.1, say.keyed.0, say.range.0), commits_fit most commit.number commits rest)
