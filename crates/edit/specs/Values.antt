-- An edit as the model has it.
use Rattle.model.specs.Region.{Edit as ModelEdit, edit_of}
use Rattle.edit.specs.declared.Edit.{Edit}

abbrev pub edit_value : Edit → ModelEdit
edit_value e = edit_of e.start.0 e.end.0 e.replacement.now
