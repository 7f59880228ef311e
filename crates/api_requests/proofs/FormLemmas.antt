-- The form that one media type in Accept chooses.
use Rattle.std.proofs.Common.{◌≡◌, List, Some, refl, sym, subst, inl, inr}
use Rattle.media.specs.declared.form.Form.{Form}
use Rattle.media.specs.declared.form.Form.TheVariants.{NQuads, NTriples, XNQuads, PlainTriples, ResultsJson, Json, Boolean}
use Rattle.media.specs.Choice.{quality, chosen}
use Rattle.media.specs.Forms.{content_type_of}
use Rattle.media.specs.Greatest.{first_greatest}
use Rattle.media.specs.Pieces.{trimmed}
use Rattle.media.specs.Quality.{qvalue, quality_of}
use Rattle.media.specs.Ranges.{is_range_text, range_by, range_of, ranges_of, specificity}
use Rattle.repo_api.specs.Accepts.{quad_forms, table_forms, truth_forms}
use Rattle.api_requests.specs.Spellable.{IsAmong}

-- the form's own media type chooses it
abbrev pub IsChosen : List Form → Form → Type 0
IsChosen offers form = chosen (content_type_of form) offers ≡ Some form

results_in_tables : IsChosen table_forms ResultsJson
unfolding chosen quality first_greatest range_of range_by is_range_text quality_of qvalue trimmed ranges_of specificity
results_in_tables = refl

json_in_tables : IsChosen table_forms Json
unfolding chosen quality first_greatest range_of range_by is_range_text quality_of qvalue trimmed ranges_of specificity
json_in_tables = refl

results_in_truths : IsChosen truth_forms ResultsJson
unfolding chosen quality first_greatest range_of range_by is_range_text quality_of qvalue trimmed ranges_of specificity
results_in_truths = refl

boolean_in_truths : IsChosen truth_forms Boolean
unfolding chosen quality first_greatest range_of range_by is_range_text quality_of qvalue trimmed ranges_of specificity
boolean_in_truths = refl

json_in_truths : IsChosen truth_forms Json
unfolding chosen quality first_greatest range_of range_by is_range_text quality_of qvalue trimmed ranges_of specificity
json_in_truths = refl

quads_in_quads : IsChosen quad_forms NQuads
unfolding chosen quality first_greatest range_of range_by is_range_text quality_of qvalue trimmed ranges_of specificity
quads_in_quads = refl

triples_in_quads : IsChosen quad_forms NTriples
unfolding chosen quality first_greatest range_of range_by is_range_text quality_of qvalue trimmed ranges_of specificity
triples_in_quads = refl

older_in_quads : IsChosen quad_forms XNQuads
unfolding chosen quality first_greatest range_of range_by is_range_text quality_of qvalue trimmed ranges_of specificity
older_in_quads = refl

plain_in_quads : IsChosen quad_forms PlainTriples
unfolding chosen quality first_greatest range_of range_by is_range_text quality_of qvalue trimmed ranges_of specificity
plain_in_quads = refl

pub chosen_table : (form : Form) → IsAmong table_forms form → IsChosen table_forms form
chosen_table form (inl e) = subst (IsChosen table_forms) (sym e) results_in_tables
chosen_table form (inr (inl e)) = subst (IsChosen table_forms) (sym e) json_in_tables
chosen_table form (inr (inr never)) = absurd never

pub chosen_truth : (form : Form) → IsAmong truth_forms form → IsChosen truth_forms form
chosen_truth form (inl e) = subst (IsChosen truth_forms) (sym e) results_in_truths
chosen_truth form (inr (inl e)) = subst (IsChosen truth_forms) (sym e) boolean_in_truths
chosen_truth form (inr (inr (inl e))) = subst (IsChosen truth_forms) (sym e) json_in_truths
chosen_truth form (inr (inr (inr never))) = absurd never

pub chosen_quad : (form : Form) → IsAmong quad_forms form → IsChosen quad_forms form
chosen_quad form (inl e) = subst (IsChosen quad_forms) (sym e) quads_in_quads
chosen_quad form (inr (inl e)) = subst (IsChosen quad_forms) (sym e) triples_in_quads
chosen_quad form (inr (inr (inl e))) = subst (IsChosen quad_forms) (sym e) older_in_quads
chosen_quad form (inr (inr (inr (inl e)))) = subst (IsChosen quad_forms) (sym e) plain_in_quads
chosen_quad form (inr (inr (inr (inr never)))) = absurd never
