-- searches among the passed commits
use Rattle.std.specs.Prelude.{ℕ, nat_lt, ◌&&◌, Bool, List, map, Option}
use Rattle.std.specs.List.{filter}
use Rattle.wsrep_base.specs.Trx.{greatest}
use Rattle.key_sets.specs.declared.relation.Relation.{Relation}
use Rattle.key_sets.specs.Keys.{Keys, meet}
use Rattle.key_sets.specs.Probes.{kind_test}
use Rattle.cert_meaning.specs.State.{CommitItem}

-- whether two sets of keys are so related
abbrev pub are_related : Relation → Keys → Keys → Bool
are_related relation = meet (kind_test relation)

-- the commits with lower numbers
abbrev pub commits_below : ℕ → List CommitItem → List CommitItem
commits_below number commits = filter (λ (commit : CommitItem). nat_lt commit.number number) commits

-- a commit above a number whose keys are so related to these
abbrev pub is_related : (Keys → Keys → Bool) → ℕ → Keys → CommitItem → Bool
is_related related above keys commit = nat_lt above commit.number && related commit.keys keys

-- the greatest number of such a commit
abbrev pub greatest_related : (Keys → Keys → Bool) → List CommitItem → ℕ → Keys → Option ℕ
greatest_related related commits above keys =
    greatest
    (map (λ (commit : CommitItem). commit.number) (filter (is_related related above keys) commits))
