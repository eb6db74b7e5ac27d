-- The fingerprint of a plan: the digest of the text that says its latencies, its names and its round trips, and nothing else.
use Rattle.std.specs.Prelude.{ℕ, List, codes}
use Rattle.sha2.specs.Sha256.{sha256}
use Rattle.helios_model.specs.Plans.{PlanData, count_of, rtt}
use Rattle.serde_json.specs.Data.{Data, string, object, no_members, member}
use Rattle.serde_json.specs.Written.{compact_text}
use Rattle.commit_offsets.specs.Printing.{whole, array_data, square_data}

-- the members in the order of their names
unfoldable pub canonical_members : Data → Data → Data → Data
canonical_members latency names rtt = object (member (codes "latency") latency (member (codes "names") names (member (codes "rtt") rtt no_members)))

abbrev pub canonical_data : PlanData → Data
canonical_data plan = canonical_members (array_data whole plan.latencies) (array_data string plan.names) (square_data (count_of plan) (λ i j. whole (rtt plan i j)))

-- the text without blanks, and with no line feed
abbrev pub canonical_text : PlanData → List ℕ
canonical_text plan = compact_text (canonical_data plan)

abbrev pub fingerprint_of : PlanData → List ℕ
fingerprint_of plan = sha256 (canonical_text plan)
