use Rattle.gw_plan.specs.declared.senders.HeaderField.TheVariants.{SendingApplication, SendingFacility, ReceivingApplication, ReceivingFacility, MessageProfile}
use Rattle.gw_plan.proofs.plan.header_of.Goals as goal

pub returns : goal.returns
returns c SendingApplication = c.header_text-sending_application.ensures
returns c SendingFacility = c.header_text-sending_facility.ensures
returns c ReceivingApplication = c.header_text-receiving_application.ensures
returns c ReceivingFacility = c.header_text-receiving_facility.ensures
returns c MessageProfile = c.header_text-message_profile.ensures
