-- Texts in a JSON value that spell an id, a version, a key or a value.
use Rattle.std.specs.Prelude.{ℕ, List, Option, Some, option_and_then, option_map, codes, if◌then◌else◌}
use Rattle.serde_json.specs.Data.{Data}
use Rattle.serde_json.specs.Find.{as_str}
use Rattle.helios_model.specs.declared.ids.TxnId.{TxnId}
use Rattle.helios_model.specs.declared.ids.Version.{Version}
use Rattle.helios_model.specs.Spellings.{id_of, key_of, value_of, version_of}
use Rattle.json_text.specs.declared.spelled.NamedVersion.{NamedVersion}
use Rattle.json_text.specs.declared.spelled.NamedVersion.TheVariants.{At, Current}
use Rattle.json_text.specs.Members.{is_text}

-- the id that a value spells
unfoldable pub id_at : Data → Option TxnId
id_at d = option_and_then id_of (as_str d)

-- the version that a value spells: `initial` or an id
unfoldable pub version_at : Data → Option Version
version_at d = option_and_then version_of (as_str d)

-- the version that a value names: `current`, `initial` or an id
unfoldable pub named_version_at : Data → Option NamedVersion
named_version_at d = if is_text (codes "current") d then Some Current else option_map At (version_at d)

-- the key that a value is
unfoldable pub key_at : Data → Option (List ℕ)
key_at d = option_and_then key_of (as_str d)

-- the stored value that a value of JSON is
unfoldable pub value_at : Data → Option (List ℕ)
value_at d = option_and_then value_of (as_str d)
