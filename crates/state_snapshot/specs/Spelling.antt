-- the one spelling of a state's parts, in bytes
use Rattle.std.specs.Prelude.{ℕ, nat_lt, List, ◌∷◌, ◌++◌, length}
use Rattle.std.specs.List.{filter, flat_map}
use Rattle.std.specs.Int.{w32, w64, to_be_bytes}
use Rattle.wsrep_base.specs.declared.ids.TrxId.{TrxId}
use Rattle.row_model.specs.declared.row.RowItem.{RowItem}
use Rattle.write_set.specs.Spelling.{place_text, row_values_text, keys_text, ops_text}
use Rattle.cert_meaning.specs.declared.items.CommitItem.{CommitItem}
use Rattle.cert_meaning.specs.declared.items.Fragment.{Fragment}
use Rattle.cert_meaning.specs.declared.parts.MemberItem.{MemberItem}
use Rattle.cert_meaning.specs.declared.parts.OpenItem.{OpenItem}
use Rattle.cert_meaning.specs.declared.parts.StateParts.{StateParts}
use Rattle.cert_meaning.specs.State.{FoldState}
use Rattle.cert_meaning.specs.Parts.{parts_of, trim}

-- a count in four bytes, and so many items
abbrev pub counted_text : {A : Type 0} → (A → List ℕ) → List A → List ℕ
counted_text text items = to_be_bytes w32 (length items) ++ flat_map text items

abbrev pub trx_text : TrxId → List ℕ
trx_text trx = to_be_bytes w32 trx.member ++ to_be_bytes w64 trx.begin

abbrev pub member_text : MemberItem → List ℕ
member_text item =
    to_be_bytes w32 item.member ++ (to_be_bytes w64 item.report ++ to_be_bytes w64 item.serial)

abbrev pub row_item_text : RowItem → List ℕ
row_item_text item = place_text item.id ++ row_values_text item.row

abbrev pub commit_text : CommitItem → List ℕ
commit_text commit = to_be_bytes w64 commit.number ++ (trx_text commit.trx ++ keys_text commit.keys)

abbrev pub fragment_text : Fragment → List ℕ
fragment_text fragment =
    to_be_bytes w64 fragment.number
    ++ (to_be_bytes w64 fragment.last_seen ++ (keys_text fragment.keys ++ ops_text fragment.ops))

abbrev pub open_text : OpenItem → List ℕ
open_text item = trx_text item.trx ++ counted_text fragment_text item.fragments

-- the numbers of a state
abbrev pub numbers_text : StateParts → List ℕ
numbers_text parts =
    to_be_bytes w64 parts.number ++ (to_be_bytes w64 parts.floor ++ to_be_bytes w32 parts.version)

-- the mark of a snapshot, the version of the format, the id of the state, and its numbers
abbrev pub head_text : StateParts → List ℕ → List ℕ
head_text parts id = 83 ∷ 1 ∷ (id ++ numbers_text parts)

-- the bytes of a state's parts
unfoldable pub spelling : StateParts → List ℕ → List ℕ
spelling parts id =
    head_text parts id
    ++ (counted_text member_text parts.members
    ++ (counted_text row_item_text parts.rows
    ++ (counted_text commit_text parts.commits ++ counted_text open_text parts.open_trx)))

-- the commits above a floor
abbrev pub above_floor : ℕ → List CommitItem → List CommitItem
above_floor floor commits = filter (λ (commit : CommitItem). nat_lt floor commit.number) commits

-- the parts of a trimmed state, by those of the state
abbrev pub trimmed : StateParts → StateParts
trimmed parts = record parts { commits = above_floor parts.floor parts.commits }

-- the snapshot of a state: its parts without the commits at or below its floor
abbrev pub snapshot_of : FoldState → List ℕ → List ℕ
snapshot_of s id = spelling (parts_of (trim s)) id
