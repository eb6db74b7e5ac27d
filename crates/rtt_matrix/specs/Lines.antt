-- How refusals of a matrix are printed.
use Rattle.std.specs.Prelude.{ℕ, List, ◌++◌, codes, decimal}
use Rattle.rtt_matrix.specs.declared.refusal.MatrixRefusal.{MatrixRefusal}
use Rattle.rtt_matrix.specs.declared.refusal.MatrixRefusal.TheVariants as refusals

abbrev pub refusal_text : MatrixRefusal → List ℕ
refusal_text refusals.NotJson = codes "not-json"
refusal_text refusals.BadShape = codes "bad-shape"
refusal_text (refusals.SiteCount count) = codes "site-count " ++ decimal count
refusal_text (refusals.BadName i) = codes "bad-name " ++ decimal i
refusal_text (refusals.BadRow i) = codes "bad-row " ++ decimal i
refusal_text (refusals.TooLong i j) = codes "too-long " ++ decimal i ++ codes " " ++ decimal j
refusal_text (refusals.NotSymmetric i j) = codes "not-symmetric " ++ decimal i ++ codes " " ++ decimal j
refusal_text (refusals.Diagonal i) = codes "diagonal " ++ decimal i
refusal_text refusals.NoMemory = codes "no-memory"
