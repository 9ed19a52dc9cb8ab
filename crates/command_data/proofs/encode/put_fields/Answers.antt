use Rattle.command_fields.proofs.AddLaws.{command_as, fields_added}
use Rattle.command_data.specs.Commands.{data_table}
use Rattle.command_data.proofs.encode.put_fields.Goals as goal

pub put_two-requires : goal.put_two-requires
put_two-requires c = (command_as data_table c.in-Publish.is c.requires).1

pub put_two-requires-in-PublishConfirm : goal.put_two-requires-in-PublishConfirm
put_two-requires-in-PublishConfirm c = (command_as data_table c.in-PublishConfirm.is c.requires).1

pub put_two-requires-in-PublishError : goal.put_two-requires-in-PublishError
put_two-requires-in-PublishError c = (command_as data_table c.in-PublishError.is c.requires).1

pub put_three-requires : goal.put_three-requires
put_three-requires c = (command_as data_table c.in-QueryPublisherSequence.is c.requires).1

pub put_answer-requires : goal.put_answer-requires
put_answer-requires c = (command_as data_table c.in-SequenceAnswer.is c.requires).1.1.1

pub put_two-requires-in-DeletePublisher : goal.put_two-requires-in-DeletePublisher
put_two-requires-in-DeletePublisher c = (command_as data_table c.in-DeletePublisher.is c.requires).1

pub put_subscribe-requires : goal.put_subscribe-requires
put_subscribe-requires c = (command_as data_table c.in-Subscribe.is c.requires).1.1.1.1.1.1

pub put_two-requires-in-Credit : goal.put_two-requires-in-Credit
put_two-requires-in-Credit c = (command_as data_table c.in-Credit.is c.requires).1

pub put_two-requires-in-CreditFault : goal.put_two-requires-in-CreditFault
put_two-requires-in-CreditFault c = (command_as data_table c.in-CreditFault.is c.requires).1

pub put_three-requires-in-StoreOffset : goal.put_three-requires-in-StoreOffset
put_three-requires-in-StoreOffset c = (command_as data_table c.in-StoreOffset.is c.requires).1

pub put_three-requires-in-QueryOffset : goal.put_three-requires-in-QueryOffset
put_three-requires-in-QueryOffset c = (command_as data_table c.in-QueryOffset.is c.requires).1

pub put_answer-requires-in-OffsetAnswer : goal.put_answer-requires-in-OffsetAnswer
put_answer-requires-in-OffsetAnswer c = (command_as data_table c.in-OffsetAnswer.is c.requires).1.1.1

pub put_two-requires-in-Unsubscribe : goal.put_two-requires-in-Unsubscribe
put_two-requires-in-Unsubscribe c = (command_as data_table c.in-Unsubscribe.is c.requires).1

pub put_two-requires-in-Plain : goal.put_two-requires-in-Plain
put_two-requires-in-Plain c = (command_as data_table c.in-Plain.is c.requires).1

pub returns-in-DeclarePublisher : goal.returns-in-DeclarePublisher
returns-in-DeclarePublisher c = fields_added data_table c.put_declare.result c.put_declare.new.out c.args.out.now c.in-DeclarePublisher.is c.put_declare.ensures

pub returns-in-Publish : goal.returns-in-Publish
returns-in-Publish c = fields_added data_table c.put_two.result c.put_two.new.out c.args.out.now c.in-Publish.is c.put_two.ensures

pub returns-in-PublishConfirm : goal.returns-in-PublishConfirm
returns-in-PublishConfirm c = fields_added data_table c.put_two-in-PublishConfirm.result c.put_two-in-PublishConfirm.new.out c.args.out.now c.in-PublishConfirm.is c.put_two-in-PublishConfirm.ensures

pub returns-in-PublishError : goal.returns-in-PublishError
returns-in-PublishError c = fields_added data_table c.put_two-in-PublishError.result c.put_two-in-PublishError.new.out c.args.out.now c.in-PublishError.is c.put_two-in-PublishError.ensures

pub returns-in-QueryPublisherSequence : goal.returns-in-QueryPublisherSequence
returns-in-QueryPublisherSequence c = fields_added data_table c.put_three.result c.put_three.new.out c.args.out.now c.in-QueryPublisherSequence.is c.put_three.ensures

pub returns-in-SequenceAnswer : goal.returns-in-SequenceAnswer
returns-in-SequenceAnswer c = fields_added data_table c.put_answer.result c.put_answer.new.out c.args.out.now c.in-SequenceAnswer.is c.put_answer.ensures

pub returns-in-DeletePublisher : goal.returns-in-DeletePublisher
returns-in-DeletePublisher c = fields_added data_table c.put_two-in-DeletePublisher.result c.put_two-in-DeletePublisher.new.out c.args.out.now c.in-DeletePublisher.is c.put_two-in-DeletePublisher.ensures

pub returns-in-Subscribe : goal.returns-in-Subscribe
returns-in-Subscribe c = fields_added data_table c.put_subscribe.result c.put_subscribe.new.out c.args.out.now c.in-Subscribe.is c.put_subscribe.ensures

pub returns-in-Deliver : goal.returns-in-Deliver
returns-in-Deliver c = fields_added data_table c.put_deliver.result c.put_deliver.new.out c.args.out.now c.in-Deliver.is c.put_deliver.ensures

pub returns-in-Deliver2 : goal.returns-in-Deliver2
returns-in-Deliver2 c = fields_added data_table c.put_deliver_two.result c.put_deliver_two.new.out c.args.out.now c.in-Deliver2.is c.put_deliver_two.ensures

pub returns-in-Credit : goal.returns-in-Credit
returns-in-Credit c = fields_added data_table c.put_two-in-Credit.result c.put_two-in-Credit.new.out c.args.out.now c.in-Credit.is c.put_two-in-Credit.ensures

pub returns-in-CreditFault : goal.returns-in-CreditFault
returns-in-CreditFault c = fields_added data_table c.put_two-in-CreditFault.result c.put_two-in-CreditFault.new.out c.args.out.now c.in-CreditFault.is c.put_two-in-CreditFault.ensures

pub returns-in-StoreOffset : goal.returns-in-StoreOffset
returns-in-StoreOffset c = fields_added data_table c.put_three-in-StoreOffset.result c.put_three-in-StoreOffset.new.out c.args.out.now c.in-StoreOffset.is c.put_three-in-StoreOffset.ensures

pub returns-in-QueryOffset : goal.returns-in-QueryOffset
returns-in-QueryOffset c = fields_added data_table c.put_three-in-QueryOffset.result c.put_three-in-QueryOffset.new.out c.args.out.now c.in-QueryOffset.is c.put_three-in-QueryOffset.ensures

pub returns-in-OffsetAnswer : goal.returns-in-OffsetAnswer
returns-in-OffsetAnswer c = fields_added data_table c.put_answer-in-OffsetAnswer.result c.put_answer-in-OffsetAnswer.new.out c.args.out.now c.in-OffsetAnswer.is c.put_answer-in-OffsetAnswer.ensures

pub returns-in-Unsubscribe : goal.returns-in-Unsubscribe
returns-in-Unsubscribe c = fields_added data_table c.put_two-in-Unsubscribe.result c.put_two-in-Unsubscribe.new.out c.args.out.now c.in-Unsubscribe.is c.put_two-in-Unsubscribe.ensures

pub returns-in-Plain : goal.returns-in-Plain
returns-in-Plain c = fields_added data_table c.put_two-in-Plain.result c.put_two-in-Plain.new.out c.args.out.now c.in-Plain.is c.put_two-in-Plain.ensures
