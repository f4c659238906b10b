use Rattle.auth_message.proofs.fields.Fields.+scripts_end.Given as goal

abbrev pub decreases-scripts_end : goal.decreases-scripts_end
decreases-scripts_end l = l.most
