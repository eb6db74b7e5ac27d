-- The text of the records of a site's log.
use Rattle.std.specs.Prelude.{ℕ, List, [], ◌∷◌, ◌++◌, codes}
use Rattle.hex.specs.Hex.{encode_lower}
use Rattle.serde_json.specs.Data.{Data, unsigned, number, string, array, object, no_items, item, no_members, member}
use Rattle.serde_json.specs.Written.{compact_text}
use Rattle.helios_model.specs.Ids.{version_text}
use Rattle.helios_model.specs.declared.records.Record.{Record}
use Rattle.helios_model.specs.declared.records.Record.TheVariants.{Prepare, Commit, Abort}
use Rattle.helios_model.specs.declared.transactions.WriteItem.{WriteItem}
use Rattle.history_audit.specs.Printing.{array_data, id_data, read_data}

abbrev pub whole : ℕ → Data
whole n = number (unsigned n)

-- [KEY,HEX,VERSION], with the version that is overwritten
abbrev pub write_data : WriteItem → Data
write_data w = array (item (string w.key) (item (string (encode_lower w.value)) (item (string (version_text w.over)) no_items)))

-- the members of each kind of record, in the order of their names
unfoldable pub prepare_members : Data → Data → Data → Data
prepare_members id reads writes = object (member (codes "prepare") id (member (codes "reads") reads (member (codes "writes") writes no_members)))

unfoldable pub commit_members : Data → Data → Data
commit_members id time = object (member (codes "commit") id (member (codes "time") time no_members))

unfoldable pub abort_members : Data → Data → Data → Data
abort_members id cause time = object (member (codes "abort") id (member (codes "cause") cause (member (codes "time") time no_members)))

abbrev pub record_data : Record → Data
record_data (Prepare p) = prepare_members (id_data p.id) (array_data read_data p.reads) (array_data write_data p.writes)
record_data (Commit id time) = commit_members (id_data id) (whole time)
record_data (Abort id time cause) = abort_members (id_data id) (id_data cause) (whole time)

unfoldable pub log_members : Data → Data → Data
log_members records site = object (member (codes "records") records (member (codes "site") site no_members))

abbrev pub records_data : ℕ → List Record → Data
records_data site records = log_members (array_data record_data records) (whole site)

-- the text without blanks, and a line feed
abbrev pub records_text : ℕ → List Record → List ℕ
records_text site records = compact_text (records_data site records) ++ 10 ∷ []
